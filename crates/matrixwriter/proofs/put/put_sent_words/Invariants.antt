-- The words ahead are still to be put.
use Rattle.std.proofs.Common.{drop}
use Rattle.verdict.specs.Writing.{put}
use Rattle.matrix.specs.Spelling.{spelled}
use Rattle.matrixwriter.proofs.Putting.{SentAhead}
use Rattle.matrixwriter.proofs.put.put_sent_words.Given as goal

abbrev pub invariant-loop-i : goal.invariant-loop-i
invariant-loop-i l = SentAhead l.length (put l.initial.out l.place (spelled l.length l.marks l.words)) l.out l.at (drop l.i l.marks) (drop l.i l.words)
