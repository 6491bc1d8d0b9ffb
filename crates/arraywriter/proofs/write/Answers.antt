-- The rules of what is given decide first, and then the room.
use Rattle.std.proofs.Common.{sym, length}
use Rattle.verdict.specs.Writing.{room_rows}
use Rattle.verdict.specs.Answers.{written}
use Rattle.verdict.proofs.Answering.{written_reason}
use Rattle.verdict.proofs.Deciding.{judgement_kept, judgement_blamed, written_on, written_off}
use Rattle.array.specs.Spelling.{bytes_of}
use Rattle.arraywriter.specs.Given.{meaning_given, given_rows}
use Rattle.arraywriter.proofs.Given.{given_lawful}
use Rattle.arraywriter.proofs.write.Goals as goal

pub write_given-requires : goal.write_given-requires
write_given-requires c =
    let a = c.args in
    given_lawful a.sizes.now a.element a.array.now (judgement_kept (given_rows a.sizes.now a.element a.array.now) (sym c.in_ok-check.ensures)) (λ i. (c.type_inv.array i).fits)

pub returns : goal.returns
returns c =
    let a = c.args in
    let rows = given_rows a.sizes.now a.element a.array.now in
    let pack = bytes_of (meaning_given a.sizes.now a.element a.array.now) in
    written_on rows (room_rows (length pack) (length a.out.now)) pack a.out.now 0 (written c.write_given.result) c.write_given.new.out (judgement_kept rows (sym c.in_ok-check.ensures)) c.write_given.ensures

pub returns-in_err-check : goal.returns-in_err-check
returns-in_err-check c =
    let a = c.args in
    let rows = given_rows a.sizes.now a.element a.array.now in
    let pack = bytes_of (meaning_given a.sizes.now a.element a.array.now) in
    let reason = c.in_err-check.field-0.0 in
    rw (written_reason c.from_residual.result reason c.from_residual.ensures.1)
    (written_off rows (room_rows (length pack) (length a.out.now)) pack a.out.now 0 reason (judgement_blamed rows reason (sym c.in_err-check.ensures)))
