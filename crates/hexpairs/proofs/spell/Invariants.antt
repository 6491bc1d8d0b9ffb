-- The pairs before `i` are spelled.
use Rattle.hexpairs.proofs.DigitPairs.{Spelled}
use Rattle.hexpairs.proofs.spell.Given as goal

abbrev pub invariant-loop-i : goal.invariant-loop-i
invariant-loop-i l = Spelled l.text l.i l.out
