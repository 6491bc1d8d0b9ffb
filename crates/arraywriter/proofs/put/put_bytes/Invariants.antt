-- The bytes so far are put.
use Rattle.std.proofs.Common.{◌≡◌, take}
use Rattle.verdict.specs.Writing.{put}
use Rattle.arraywriter.proofs.put.put_bytes.Given as goal

abbrev pub invariant-loop-i : goal.invariant-loop-i
invariant-loop-i l = l.out ≡ put l.initial.out l.place (take l.i l.bytes)
