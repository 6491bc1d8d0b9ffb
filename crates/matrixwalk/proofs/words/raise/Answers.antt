-- The next entry is raised behind those before it.
use Rattle.std.proofs.Common.{arith}
use Rattle.matrixwalk.proofs.Blocks.{raised_none, raised_more, raised_all}
use Rattle.matrixwalk.proofs.words.raise.Goals as goal

pub loop-i-init : goal.loop-i-init
loop-i-init c = raised_none c.args.words.now c.args.at c.args.most.now

pub loop-i-preserved : goal.loop-i-preserved
loop-i-preserved c =
    let l = c.loop-i in
    raised_more c.args.words.now c.args.at c.args.most.now l.i l.most l.invariant c.max.result (omega arith) (omega arith) (omega arith)

pub returns : goal.returns
returns c =
    let l = c.loop-i in
    raised_all c.args.words.now c.args.at c.args.most.now l.i l.most l.invariant (omega arith)
