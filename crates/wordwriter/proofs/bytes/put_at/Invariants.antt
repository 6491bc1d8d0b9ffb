-- The bytes after the first `i` are stored.
use Rattle.word.proofs.Filled.{Stored}
use Rattle.wordwriter.proofs.bytes.put_at.Given as goal

abbrev pub invariant-loop-i : goal.invariant-loop-i
invariant-loop-i l = Stored l.initial.out l.place l.length l.word l.i l.rest l.out
