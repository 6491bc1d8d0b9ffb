-- What is checked is written, and a broken rule leaves the bytes.
use Rattle.std.proofs.Common.{◌++◌, ◌∙◌, ap, ℕ, sym, subst, length, take}
use Rattle.std.specs.Prelude.{Result, Err}
use Rattle.verdict.specs.declared.Refusal.{Refusal}
use Rattle.verdict.specs.Answers.{written}
use Rattle.verdict.specs.Writing.{room_rows, WrittenBy}
use Rattle.verdict.proofs.Deciding.{written_on, written_off}
use Rattle.matrix.specs.Meaning.{pairs, sum}
use Rattle.matrix.specs.Spelling.{bytes_of}
use Rattle.matrixcheck.specs.Given.{meaning_given, given_rows}
use Rattle.matrixcheck.proofs.Given.{given_lawful}
use Rattle.std.proofs.lemmas.Result.{err_from_is_err_and}
use Rattle.matrixcheck.proofs.Checking.{checked_kept, checked_refused}
use Rattle.matrixwriter.proofs.write.Goals as goal

pub write_given-requires : goal.write_given-requires
write_given-requires c =
    let a = c.args in
    let rows = given_rows a.mapped a.fields a.deviations.now a.coefficients.now a.marks.now in
    let k = checked_kept rows (sum (take (pairs a.fields.n) a.marks.now)) c.in_ok-sent.sent (sym c.in_ok-sent.ensures) in
    let g = given_lawful a.fields a.deviations.now a.coefficients.now a.marks.now a.mapped k.0 in
    record { enough = g.0; lawful = g.1; counted = k.1 }

pub returns : goal.returns
returns c =
    let a = c.args in
    let rows = given_rows a.mapped a.fields a.deviations.now a.coefficients.now a.marks.now in
    let bytes = bytes_of (meaning_given a.fields a.deviations.now a.coefficients.now a.marks.now) in
    let k = checked_kept rows (sum (take (pairs a.fields.n) a.marks.now)) c.in_ok-sent.sent (sym c.in_ok-sent.ensures) in
    written_on rows (room_rows (length bytes) (length a.out.now)) bytes a.out.now 0 (written c.write_given.result) c.write_given.new.out k.0 c.write_given.ensures

pub returns-in_err-sent : goal.returns-in_err-sent
returns-in_err-sent c =
    let a = c.args in
    let rows = given_rows a.mapped a.fields a.deviations.now a.coefficients.now a.marks.now in
    let bytes = bytes_of (meaning_given a.fields a.deviations.now a.coefficients.now a.marks.now) in
    let room = room_rows (length bytes) (length a.out.now) in
    let refusal = c.in_err-sent.field-0.0 in
    let broken = checked_refused rows (sum (take (pairs a.fields.n) a.marks.now)) refusal (sym c.in_err-sent.ensures) in
    let error = err_from_is_err_and c.from_residual.result c.from_residual.ensures.1 in
    let answer = error.1 ∙ ap Err (error.2 ∙ broken.2) in
    subst (λ (r : Result ℕ Refusal). WrittenBy (rows ++ room) bytes a.out.now 0 (written r) a.out.now) (sym answer) (written_off rows room bytes a.out.now 0 broken.0 broken.1)
