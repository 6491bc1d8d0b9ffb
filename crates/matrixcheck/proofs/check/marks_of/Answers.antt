-- The marks of a sparse matrix are counted; of a full matrix all are the same.
use Rattle.std.proofs.Common.{◌∙◌, ap}
use Rattle.std.specs.Prelude.{Some}
use mathlib.Core.Bool.{not}
use Rattle.matrixcheck.proofs.Fitting.{marked_sum, marked_full}
use Rattle.matrixcheck.proofs.check.marks_of.Goals as goal

pub returns-then-f : goal.returns-then-f
returns-then-f c = ap Some c.sum_of.ensures ∙ marked_sum c.args.f c.args.marks.now c.marks_fit.result c.marks_fit.ensures (ap not c.if-not-marks_fit.false)

pub returns : goal.returns
returns c =
    let a = c.args in
    marked_full a.f a.marks.now c.marks_fit.result c.marks_fit.ensures (ap not c.if-not-marks_fit.false) c.if-f.false c.from.result (c.from.ensures ∙ c.mark_of.ensures)
