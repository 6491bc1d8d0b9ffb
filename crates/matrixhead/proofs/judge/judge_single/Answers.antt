-- The first broken rule decides, in the order in which they are judged.
use Rattle.std.proofs.Common.{◌∷◌, [], ◌++◌, ◌∙◌, sym}
use Rattle.matrix.specs.Table.{empty_row}
use Rattle.matrixhead.specs.Judging.{length_rows, presence_rows}
use Rattle.matrixhead.proofs.Judging.{judged_on, judged_off}
use Rattle.matrixhead.proofs.judge.judge_single.Goals as goal

pub returns-in_err-judge_length-2 : goal.returns-in_err-judge_length-2
returns-in_err-judge_length-2 c =
    let f = c.args.f in
    let more = presence_rows f ++ (empty_row f ∷ []) in
    judged_off (length_rows f.sf f.slen) more c.in_err-judge_length-2.field-0.0 c.from_residual-in_err-judge_length-2.result c.in_err-judge_length-2.ensures c.from_residual-in_err-judge_length-2.ensures.1
    ∙ sym (judged_on (length_rows f.cf f.clen) (length_rows f.sf f.slen ++ more) c.in_ok-judge_length.field-0 c.in_ok-judge_length.ensures)

pub returns-in_err-judge_presence : goal.returns-in_err-judge_presence
returns-in_err-judge_presence c =
    let f = c.args.f in
    let more = presence_rows f ++ (empty_row f ∷ []) in
    judged_off (presence_rows f) (empty_row f ∷ []) c.in_err-judge_presence.field-0.0 c.from_residual-in_err-judge_presence.result c.in_err-judge_presence.ensures c.from_residual-in_err-judge_presence.ensures.1
    ∙ sym (judged_on (length_rows f.sf f.slen) more c.in_ok-judge_length-2.field-0 c.in_ok-judge_length-2.ensures)
    ∙ sym (judged_on (length_rows f.cf f.clen) (length_rows f.sf f.slen ++ more) c.in_ok-judge_length.field-0 c.in_ok-judge_length.ensures)
