-- The first `i` entries are raised.
use Rattle.matrixwalk.proofs.Blocks.{RaisedFirst}
use Rattle.matrixwalk.proofs.words.raise.Given as goal

abbrev pub invariant-loop-i : goal.invariant-loop-i
invariant-loop-i l = RaisedFirst l.words l.at l.i l.initial.most l.most
