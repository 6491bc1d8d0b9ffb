-- One word further from the end, one more begins below the limit.
use Rattle.std.proofs.Common.{length, arith}
use Rattle.matrixwalk.proofs.Blocks.{firsts_more}
use Rattle.matrixwalk.proofs.words.all_below.Goals as goal

pub loop-at-preserved : goal.loop-at-preserved
loop-at-preserved c = λ f.
    let a = c.args in
    c.loop-at.invariant (firsts_more a.words.now (length a.words.now) a.length a.limit c.loop-at.at (omega arith) f)
