-- The line that is held is answered, and its text has room.
use Rattle.std.proofs.Common.{arith}
use Rattle.report.proofs.Closing.{line_counted, count_one, line_closed}
use Rattle.report.proofs.feed.close.Goals as goal

pub unwrap-count-requires : goal.unwrap-count-requires
unwrap-count-requires c =
    let a = c.args in
    rw (line_counted a.at c.held_answer-answer.result a.out.now c.write_line.result _ c.requires.has_room c.write_line.ensures)

pub overflow_add-result-2 : goal.overflow_add-result-2
overflow_add-result-2 c =
    let a = c.args in
    let w = c.write_line.ensures in
    let count = count_one a.at c.held_answer-answer.result a.out.now c.write_line.result _ c.requires.has_room w c.unwrap-count.result c.unwrap-count.ensures in
    record { fits = omega (arith, count, w.short, c.requires.has_room) }

pub returns : goal.returns
returns c =
    let a = c.args in
    line_closed a.at c.held_answer-answer.result a.out.now c.write_line.result _ c.requires.has_room c.write_line.ensures c.unwrap-count.result c.unwrap-count.ensures a.line.now c.held_answer-answer.ensures c.saturating_add.result c.saturating_add.ensures
