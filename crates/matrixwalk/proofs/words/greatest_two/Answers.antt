-- One word further from the end, one more is under the greatest.
use Rattle.std.proofs.Common.{length, arith}
use Rattle.matrixwalk.proofs.Blocks.{twos_more}
use Rattle.matrixwalk.proofs.words.greatest_two.Goals as goal

pub loop-at-preserved : goal.loop-at-preserved
loop-at-preserved g c =
    let l = c.loop-at in
    let words = c.args.words.now in (
      omega arith,
      λ most h f. l.invariant.1 most (omega (arith, c.max-most.ensures)) (twos_more words (length words) g.row.LENGTH c.args.mask most l.at (omega arith) (omega (arith, c.two_at.ensures, c.max-most.ensures)) f),
    )

pub returns : goal.returns
returns g c =
    let l = c.loop-at in
    l.invariant.1 l.most (omega arith) (λ k h. absurd (omega arith))
