-- The bytes so far are put, and one more.
use Rattle.std.proofs.Common.{sym, arith}
use Rattle.matrix.specs.Spelling.{packed}
use Rattle.verdict.proofs.Putting.{put_none}
use Rattle.matrixwriter.proofs.Putting.{vector_put_next}
use Rattle.matrixwriter.proofs.put.put_vector.Goals as goal

pub loop-i-init : goal.loop-i-init
unfolding packed
loop-i-init c = sym (put_none c.args.out.now c.args.place)

pub loop-i-preserved : goal.loop-i-preserved
loop-i-preserved c =
    let a = c.args in
    let l = c.loop-i in
    vector_put_next a.out.now a.place a.marks.now l.i c.vector_byte.result l.out (omega (arith, c.loop-i-test.true, c.requires.1.0)) c.vector_byte.ensures l.invariant
