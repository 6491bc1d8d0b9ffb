-- The words so far are put, and the place is that of the next.
use Rattle.word.proofs.Words.{laid_none, laid_more, laid_all}
use Rattle.wordwriter.proofs.many.write_each.Goals as goal

pub loop-word-init : goal.loop-word-init
loop-word-init c = laid_none c.args.out.now c.args.words.now c.args.length

pub loop-word-preserved : goal.loop-word-preserved
loop-word-preserved c =
    let a = c.args in
    let l = c.loop-word in
    rw c.put_at.ensures (laid_more a.out.now a.words.now a.length c.requires l.place l.word-index l.out c.loop-word-test.true l.invariant)

pub returns : goal.returns
returns c =
    let a = c.args in
    let l = c.loop-word in
    laid_all a.out.now a.words.now a.length c.requires l.place l.word-index l.out c.loop-word-test.false l.invariant
