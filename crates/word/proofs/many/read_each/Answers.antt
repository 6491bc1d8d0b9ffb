-- The words so far are read, and the place is that of the next.
use Rattle.std.proofs.Common.{arith}
use Rattle.word.proofs.Words.{taken_none, taken_more, taken_all}
use Rattle.word.proofs.many.read_each.Goals as goal

pub loop-word-init : goal.loop-word-init
loop-word-init c = taken_none c.args.out.now c.args.bytes.now c.args.length

pub loop-word-preserved : goal.loop-word-preserved
loop-word-preserved c =
    rw c.word_in.ensures (taken_more c.args.out.now c.args.bytes.now c.args.length c.loop-word.place c.loop-word.word-index c.loop-word.out (omega (arith, c.loop-word-test.true, c.loop-word.auto.out)) c.loop-word.invariant)

pub returns : goal.returns
returns c = taken_all c.args.out.now c.args.bytes.now c.args.length c.loop-word.place c.loop-word.word-index c.loop-word.out (omega (arith, c.loop-word-test.false, c.loop-word.auto.out)) c.loop-word.invariant
