-- The octets counted, with those of the rest, are all.
use Rattle.std.proofs.Common.{◌≡◌, ◌+◌, length}
use Rattle.number.specs.Octets.{high, octets}
use Rattle.numberwriter.proofs.write.count_of.Given as goal

abbrev pub invariant-loop-rest : goal.invariant-loop-rest
invariant-loop-rest l = l.count + length (high l.rest) ≡ length (octets l.value)

abbrev pub decreases-loop-rest : goal.decreases-loop-rest
decreases-loop-rest l = l.rest
