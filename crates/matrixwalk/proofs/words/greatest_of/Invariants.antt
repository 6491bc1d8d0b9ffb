-- No byte of the blocks so far is above its entry.
use Rattle.matrixwalk.proofs.Blocks.{Covers}
use Rattle.matrixwalk.proofs.words.greatest_of.Given as goal

abbrev pub invariant-loop-i : goal.invariant-loop-i
invariant-loop-i l = Covers l.words l.size l.i l.most
