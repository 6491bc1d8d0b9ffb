use Rattle.word.proofs.Words.{Taken}
use Rattle.word.proofs.many.read_each.Given as goal

abbrev pub invariant-loop-word : goal.invariant-loop-word
invariant-loop-word l = Taken l.initial.out l.bytes l.length l.place l.word-index l.out
