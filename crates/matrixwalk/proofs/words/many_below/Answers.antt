-- The words of whole blocks, and those behind them.
use Rattle.std.proofs.Common.{◌*◌, ◌/◌, length, arith}
use native.Mathlib.Nat.{mul_assoc}
use Rattle.matrixwalk.proofs.Blocks.{firsts_join, firsts_part}
use Rattle.matrixwalk.proofs.words.many_below.Goals as goal

pub returns : goal.returns
returns c = λ e.
    let n = c.args.length in
    let words = c.args.words.now in
    let limit = c.args.limit in
    let blocks = length words / (16 * n) in
    firsts_join words (length words) n limit 0 (blocks * 16) (blocks * (16 * n)) (omega (arith, mul_assoc blocks 16 n))
    (c.blocks_by_length.ensures c.if-not-blocks_by_length.false) (firsts_part words (blocks * (16 * n)) (length words) n (omega arith) limit (c.all_below.ensures e))
