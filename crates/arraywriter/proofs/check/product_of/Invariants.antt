-- The sizes so far keep their rules, and this is their product.
use Rattle.arraywriter.proofs.Measuring.{MeasuredTo}
use Rattle.arraywriter.proofs.check.product_of.Given as goal

abbrev pub invariant-loop-size : goal.invariant-loop-size
invariant-loop-size l = MeasuredTo l.sizes l.elements l.size-index
