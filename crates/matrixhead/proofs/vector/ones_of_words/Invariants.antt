-- The ones of the words passed, with those of the words ahead, are those of all.
use Rattle.std.proofs.Common.{◌≡◌, ◌+◌, ◌*◌, ◌≤◌, drop}
use Rattle.matrixhead.specs.Parts.{ones_in}
use Rattle.matrixhead.proofs.vector.ones_of_words.Given as goal

abbrev pub invariant-loop-word : goal.invariant-loop-word
invariant-loop-word l = (l.ones ≤ l.word-index * 64) × (l.ones + ones_in (drop l.word-index l.words) ≡ ones_in l.words)
