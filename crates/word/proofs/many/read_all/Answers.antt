-- What is judged well is done, and a refusal leaves the list.
use Rattle.std.proofs.Common.{length}
use Rattle.verdict.proofs.Answering.{written_reason}
use Rattle.word.specs.Many.{words_in, many_rows}
use Rattle.word.proofs.Words.{length_words, many_refused, whole_left}
use Rattle.word.proofs.many.read_all.Goals as goal

pub returns : goal.returns
returns c =
    let a = c.args in
    let rows = many_rows a.length (length a.out.now) (length a.bytes.now) in
    whole_left rows (words_in a.length (length a.out.now) a.bytes.now) a.out.now c.read_by_length.new.out c.in_ok-judge.ensures (length_words a.length (length a.out.now) a.bytes.now) c.read_by_length.ensures

pub returns-in_err-judge : goal.returns-in_err-judge
returns-in_err-judge c =
    let a = c.args in
    let rows = many_rows a.length (length a.out.now) (length a.bytes.now) in
    let reason = c.in_err-judge.field-0.0 in
    rw (written_reason c.from_residual.result reason c.from_residual.ensures.1) (many_refused rows (words_in a.length (length a.out.now) a.bytes.now) a.out.now reason c.in_err-judge.ensures)
