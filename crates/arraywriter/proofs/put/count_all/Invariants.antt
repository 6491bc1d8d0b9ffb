-- The octets counted, with those of the numbers from this one on, are all.
use Rattle.std.proofs.Common.{◌≡◌, ◌+◌, length, drop}
use Rattle.number.specs.Octets.{numbers}
use Rattle.arraywriter.proofs.put.count_all.Given as goal

abbrev pub invariant-loop-value : goal.invariant-loop-value
invariant-loop-value l = l.count + length (numbers (drop l.value-index l.values)) ≡ length (numbers l.values)
