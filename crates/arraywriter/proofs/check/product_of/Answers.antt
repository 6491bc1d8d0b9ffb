-- A size that breaks its rule is the first, and one that keeps it multiplies the product.
use Rattle.std.proofs.Common.{sym, add-one, arith}
use Rattle.arraywriter.proofs.Measuring.{measured_all, measured_zero, measured_large, measured_more}
use Rattle.arraywriter.proofs.check.product_of.Goals as goal

pub returns-then-size-eq0 : goal.returns-then-size-eq0
returns-then-size-eq0 c = let l = c.loop-size in sym (measured_zero c.args.sizes.now l.elements l.size-index l.invariant (omega arith) (omega arith))

pub returns-then-elements-size : goal.returns-then-elements-size
returns-then-elements-size c = let l = c.loop-size in sym (measured_large c.args.sizes.now l.elements l.size-index l.invariant (omega arith) (λ z. omega arith) (omega arith))

pub loop-size-preserved : goal.loop-size-preserved
loop-size-preserved c = let l = c.loop-size in rw add-one (measured_more c.args.sizes.now l.elements l.size-index l.invariant (omega arith) (λ z. omega arith) (omega arith))

pub returns : goal.returns
returns c = let l = c.loop-size in sym (measured_all c.args.sizes.now l.elements l.size-index l.invariant (omega arith))
