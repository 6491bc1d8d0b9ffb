-- Whether the marks passed fit, and the next with them.
use Rattle.std.proofs.Common.{◌∙◌, ap, arith, get_or}
use lib.Bits.{and_le_l}
use lib.Seq.{take_all}
use Rattle.matrixcheck.specs.Given.{marks_fit}
use Rattle.matrixcheck.proofs.Fitting.{gathered_none, marks_gathered}
use Rattle.matrixcheck.proofs.check.marks_fit.Goals as goal

pub loop-mark-init : goal.loop-mark-init
loop-mark-init c = (omega arith, λ f m l. gathered_none f c.least_of-least.result c.mark_of-most.result l)

pub loop-mark-preserved : goal.loop-mark-preserved
loop-mark-preserved c =
    let marks = c.args.marks.now in
    let at = c.loop-mark in (
      omega (arith, at.invariant.0, and_le_l at.all (get_or marks at.mark-index 0)),
      λ f m e. marks_gathered f marks at.mark-index c.least_of-least.result c.mark_of-most.result at.any at.all c.loop-mark-test.true m e at.invariant.0 (at.invariant.1 f m e),
    )

pub returns : goal.returns
returns c =
    let l = c.loop-mark in
    l.invariant.1 c.args.f c.mark_of-most.ensures c.least_of-least.ensures ∙ ap (marks_fit c.args.f) (take_all l.mark-index c.args.marks.now c.loop-mark-test.false)
