use Rattle.std.proofs.Common.{◌-◌, ◌≡◌, ◌≤◌}
use Rattle.std.proofs.Common.{◌*◌, ◌^◌}
use Rattle.word.specs.Bytes.{word_at}
use Rattle.word.proofs.bytes.part_in.Given as goal

abbrev pub invariant-loop-i : goal.invariant-loop-i
invariant-loop-i l = (l.i ≤ l.length) × (l.value ≡ word_at l.bytes l.place l.i * 256 ^ (l.length - l.i))
