-- The first broken rule decides, in the order in which they are judged.
use Rattle.std.proofs.Common.{◌∷◌, [], ◌++◌, ◌∙◌, sym}
use Rattle.matrix.specs.Table.{room_row, coefficient_rows, deviation_rows}
use Rattle.matrixhead.proofs.Judging.{judged_on, judged_off}
use Rattle.matrixhead.proofs.judge.judge_lengths.Goals as goal

pub returns-in_err-judge_room : goal.returns-in_err-judge_room
returns-in_err-judge_room c =
    let f = c.args.f in
    judged_off (room_row f f.clen ∷ []) (coefficient_rows f ++ (room_row f f.slen ∷ deviation_rows f)) c.in_err-judge_room.field-0.0 c.from_residual.result c.in_err-judge_room.ensures c.from_residual.ensures.1

pub returns-in_err-judge_coefficients : goal.returns-in_err-judge_coefficients
returns-in_err-judge_coefficients c =
    let f = c.args.f in
    let more = room_row f f.slen ∷ deviation_rows f in
    judged_off (coefficient_rows f) more c.in_err-judge_coefficients.field-0.0 c.from_residual-in_err-judge_coefficients.result c.in_err-judge_coefficients.ensures c.from_residual-in_err-judge_coefficients.ensures.1
    ∙ sym (judged_on (room_row f f.clen ∷ []) (coefficient_rows f ++ more) c.in_ok-judge_room.field-0 c.in_ok-judge_room.ensures)

pub returns-in_err-judge_room-2 : goal.returns-in_err-judge_room-2
returns-in_err-judge_room-2 c =
    let f = c.args.f in
    let more = room_row f f.slen ∷ deviation_rows f in
    judged_off (room_row f f.slen ∷ []) (deviation_rows f) c.in_err-judge_room-2.field-0.0 c.from_residual-in_err-judge_room-2.result c.in_err-judge_room-2.ensures c.from_residual-in_err-judge_room-2.ensures.1
    ∙ sym (judged_on (coefficient_rows f) more c.in_ok-judge_coefficients.field-0 c.in_ok-judge_coefficients.ensures)
    ∙ sym (judged_on (room_row f f.clen ∷ []) (coefficient_rows f ++ more) c.in_ok-judge_room.field-0 c.in_ok-judge_room.ensures)

pub returns : goal.returns
returns c =
    let f = c.args.f in
    let more = room_row f f.slen ∷ deviation_rows f in
    c.judge_deviations.ensures
    ∙ sym (judged_on (room_row f f.slen ∷ []) (deviation_rows f) c.in_ok-judge_room-2.field-0 c.in_ok-judge_room-2.ensures)
    ∙ sym (judged_on (coefficient_rows f) more c.in_ok-judge_coefficients.field-0 c.in_ok-judge_coefficients.ensures)
    ∙ sym (judged_on (room_row f f.clen ∷ []) (coefficient_rows f ++ more) c.in_ok-judge_room.field-0 c.in_ok-judge_room.ensures)
