-- With mark 0 there are no bytes; with mark 1 the word fits and has room, so that it is written.
use Rattle.std.proofs.Common.{◌≡◌, arith}
use Rattle.verdict.specs.Answers.{written}
use Rattle.word.proofs.Filled.{fitting_written}
use Rattle.matrixwriter.proofs.Putting.{unsent_put, sent_room, sent_put}
use Rattle.matrixwriter.proofs.put.put_sent.Goals as goal

pub returns-then-mark-eq0 : goal.returns-then-mark-eq0
returns-then-mark-eq0 c = let a = c.args in unsent_put a.out.now a.place a.length a.mark a.word (omega (arith, c.if-mark-eq0.true))

pub returns : goal.returns
returns c =
    let a = c.args in
    let one : a.mark ≡ 1 = omega (arith, c.requires.1.0, c.if-mark-eq0.false) in
    sent_put a.out.now a.place a.length a.mark a.word c.write_at.new.out one
    (fitting_written a.out.now a.place a.length a.word (written c.write_at.result) c.write_at.new.out c.requires.0 (c.requires.1.1.0 one) (omega (arith, c.requires.1.1.1, sent_room a.length a.mark one)) c.write_at.ensures)
