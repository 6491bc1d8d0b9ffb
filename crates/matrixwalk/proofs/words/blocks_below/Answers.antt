-- The greatest byte of each place stands for all of them.
use Rattle.std.proofs.Common.{arith}
use Rattle.matrixwalk.proofs.Blocks.{under_firsts}
use Rattle.matrixwalk.proofs.words.blocks_below.Goals as goal

pub returns : goal.returns
returns c = λ e.
    let a = c.args in
    under_firsts a.words.now a.blocks a.length a.limit c.greatest_of-most.result c.requires.0 (omega arith) c.greatest_of-most.ensures (c.all_below.ensures e)
