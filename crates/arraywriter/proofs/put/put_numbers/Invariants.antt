-- The octets of the numbers from this one on are left.
use Rattle.std.proofs.Common.{drop}
use Rattle.number.specs.Octets.{numbers}
use Rattle.arraywriter.proofs.Parts.{PutTo}
use Rattle.arraywriter.proofs.put.put_numbers.Given as goal

abbrev pub invariant-loop-value : goal.invariant-loop-value
invariant-loop-value l = PutTo l.fn.out l.place (numbers l.values) l.at (numbers (drop l.value-index l.values)) l.out
