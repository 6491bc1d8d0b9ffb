-- 14 for numbers that are no format or no fields, else what the writer does.
use Rattle.std.proofs.Common.{Bool, not, ap, refl, subst}
use Rattle.verdict.specs.Answers.{written}
use Rattle.verdict.specs.Writing.{WrittenBy}
use Rattle.matrix.specs.Spelling.{bytes_of}
use Rattle.matrixcheck.specs.Given.{meaning_given}
use Rattle.matrixwriter.specs.Writing.{writer_rows}
use Rattle.cmatrix.specs.Writing.{fields_fit}
use Rattle.cmatrix.proofs.Given.{told_own, told_other, fields_own, fields_other, written_disagreeing}
use Rattle.cmatrix.proofs.Writing.{other_written, unfit_written, fit_written}
use Rattle.cmatrix.proofs.write_given.Goals as goal

pub returns-in_err-told : goal.returns-in_err-told
returns-in_err-told c =
    let a = c.args in
    let refusal = c.in_err-told.field-0.0 in
    let other = told_other a.format refusal c.in_err-told.ensures in
    rw (written_disagreeing c.from_residual.result refusal other.1 c.from_residual.ensures.1) (other_written a.format a.fields.now a.deviations.now a.coefficients.now a.marks.now a.out.now other.0)

pub returns-in_err-given : goal.returns-in_err-given
returns-in_err-given c =
    let a = c.args in
    let own = told_own a.format c.in_ok-told.told c.in_ok-told.ensures in
    let refusal = c.in_err-given.field-0.0 in
    let other = fields_other a.fields.now refusal c.in_err-given.ensures in
    rw (written_disagreeing c.from_residual-in_err-given.result refusal other.1 c.from_residual-in_err-given.ensures.1)
    (unfit_written a.format a.fields.now a.deviations.now a.coefficients.now a.marks.now a.out.now own.0 (fields_fit a.fields.now) refl (ap not other.0))

pub returns : goal.returns
returns c =
    let a = c.args in
    let own = told_own a.format c.in_ok-told.told c.in_ok-told.ensures in
    let fit = fields_own a.fields.now c.in_ok-given.given c.in_ok-given.ensures in
    let f = c.in_ok-given.given in
    let mapped = ap (λ t. t.mapped) own.1 in
    fit_written a.format a.fields.now a.deviations.now a.coefficients.now a.marks.now a.out.now own.0 (fields_fit a.fields.now) refl (ap not fit.0) f fit.1 (written c.write.result) c.write.new.out
    (subst (λ (m : Bool). WrittenBy (writer_rows m f a.deviations.now a.coefficients.now a.marks.now a.out.now) (bytes_of (meaning_given f a.deviations.now a.coefficients.now a.marks.now)) a.out.now 0 (written c.write.result) c.write.new.out) mapped c.write.ensures)
