-- The words so far are put, and the place is that of the next.
use Rattle.word.proofs.Words.{Laid}
use Rattle.wordwriter.proofs.many.write_each.Given as goal

abbrev pub invariant-loop-word : goal.invariant-loop-word
invariant-loop-word l = Laid l.initial.out l.words l.length l.place l.word-index l.out
