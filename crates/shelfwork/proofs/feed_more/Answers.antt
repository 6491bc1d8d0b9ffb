-- What was fed is within the chunk.
use Rattle.std.proofs.Common.{arith}
use Rattle.shelfwork.proofs.Working.{fed_fits}
use Rattle.shelfwork.proofs.feed_more.Goals as goal

pub behind_feed-requires : goal.behind_feed-requires
behind_feed-requires c =
    let a = c.args in
    record { fits = omega (arith, fed_fits a.work a.chunk.now a.line.now a.out.now c.min-end.result c.min-end.ensures c.if-end-from.false c.feed-answer.result _ _ c.feed-answer.ensures) }
