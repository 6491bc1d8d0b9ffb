-- What is judged well is done, and a refusal leaves the bytes.
use Rattle.std.proofs.Common.{◌∙◌, length as count, sym}
use Rattle.verdict.proofs.Answering.{written_reason}
use Rattle.word.specs.Many.{bytes_for, write_rows}
use Rattle.word.proofs.Words.{length_bytes, fit_whole, many_refused, whole_left}
use Rattle.wordwriter.proofs.many.write_all.Goals as goal

pub returns : goal.returns
returns c =
    let a = c.args in
    let k = c.in_ok-judge_words.ensures in
    whole_left (write_rows a.length a.words.now (count a.out.now)) (bytes_for a.length a.words.now) a.out.now c.write_by_length.new.out k
    (length_bytes a.length a.words.now ∙ sym (fit_whole a.length a.words.now (count a.out.now) k).1) c.write_by_length.ensures

pub returns-in_err-judge_words : goal.returns-in_err-judge_words
returns-in_err-judge_words c =
    let a = c.args in
    let rows = write_rows a.length a.words.now (count a.out.now) in
    let reason = c.in_err-judge_words.field-0.0 in
    rw (written_reason c.from_residual.result reason c.from_residual.ensures.1) (many_refused rows (bytes_for a.length a.words.now) a.out.now reason c.in_err-judge_words.ensures)
