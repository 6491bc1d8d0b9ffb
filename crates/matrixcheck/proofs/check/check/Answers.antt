-- The fields, then their formats and the lists.
use Rattle.std.proofs.Common.{◌∷◌, ◌++◌, ◌∙◌, ap, sym, take}
use Rattle.std.specs.Prelude.{Err}
use Rattle.verdict.specs.Judgement.{judgement}
use Rattle.verdict.proofs.Deciding.{judgement_kept, judgement_blamed}
use Rattle.matrixhead.proofs.Judging.{passed_on, allowed_kept, allowed_broken}
use Rattle.matrix.specs.Meaning.{pairs, sum}
use Rattle.matrix.specs.Table.{field_rows}
use Rattle.matrix.proofs.FieldRules.{fields_lawful}
use Rattle.matrixcheck.specs.Given.{format_row, disagree_rows, value_rows}
use Rattle.matrixcheck.proofs.Checking.{placed, placed_from, checked_on, checked_off, checked_judged}
use Rattle.matrixcheck.proofs.check.check.Goals as goal

pub returns-in_err-judge_fields : goal.returns-in_err-judge_fields
returns-in_err-judge_fields c =
    let a = c.args in
    let marks = a.marks.now in
    let rows = field_rows a.mapped a.f in
    let more = format_row a.mapped a.f ∷ (disagree_rows a.f a.deviations.now a.coefficients.now marks ++ value_rows a.f a.deviations.now a.coefficients.now marks) in
    let refusal = c.in_err-judge_fields.field-0.0 in
    let broken = allowed_broken (judgement rows) refusal (sym c.in_err-judge_fields.ensures) in
    passed_on c.from_residual.result refusal c.from_residual.ensures.1
    ∙ ap Err broken.2
    ∙ sym (checked_off rows more (sum (take (pairs a.f.n) marks)) broken.0 (judgement_blamed rows broken.0 broken.1))

pub check_formats-requires : goal.check_formats-requires
check_formats-requires c =
    let a = c.args in
    let rows = field_rows a.mapped a.f in
    fields_lawful a.mapped a.f (judgement_kept rows (allowed_kept (judgement rows) (sym c.in_ok-judge_fields.ensures)))

pub returns-in_err-check_formats : goal.returns-in_err-check_formats
returns-in_err-check_formats c =
    let a = c.args in
    let marks = a.marks.now in
    let rows = field_rows a.mapped a.f in
    let more = format_row a.mapped a.f ∷ (disagree_rows a.f a.deviations.now a.coefficients.now marks ++ value_rows a.f a.deviations.now a.coefficients.now marks) in
    let sent = sum (take (pairs a.f.n) marks) in
    placed_from c.from_residual-in_err-check_formats.result c.in_err-check_formats.field-0.0 c.from_residual-in_err-check_formats.ensures.1
    ∙ ap placed c.in_err-check_formats.ensures
    ∙ sym (checked_judged more sent)
    ∙ sym (checked_on rows more sent (judgement_kept rows (allowed_kept (judgement rows) (sym c.in_ok-judge_fields.ensures))))

pub returns : goal.returns
returns c =
    let a = c.args in
    let marks = a.marks.now in
    let rows = field_rows a.mapped a.f in
    let more = format_row a.mapped a.f ∷ (disagree_rows a.f a.deviations.now a.coefficients.now marks ++ value_rows a.f a.deviations.now a.coefficients.now marks) in
    let sent = sum (take (pairs a.f.n) marks) in
    ap placed c.in_ok-check_formats.ensures
    ∙ sym (checked_judged more sent)
    ∙ sym (checked_on rows more sent (judgement_kept rows (allowed_kept (judgement rows) (sym c.in_ok-judge_fields.ensures))))
