-- The word has come to `i`, and its bytes so far are its limit's.
use Rattle.matrixwalk.proofs.Passing.{Tight}
use Rattle.matrixwalk.proofs.words.tight_word.Given as goal

abbrev pub invariant-loop-i : goal.invariant-loop-i
invariant-loop-i l = Tight l.bytes l.at l.ruled.rule l.i
