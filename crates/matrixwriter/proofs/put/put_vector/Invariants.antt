-- The bytes so far are put.
use Rattle.std.proofs.Common.{◌≡◌}
use Rattle.verdict.specs.Writing.{put}
use Rattle.matrix.specs.Spelling.{packed}
use Rattle.matrixwriter.proofs.put.put_vector.Given as goal

abbrev pub invariant-loop-i : goal.invariant-loop-i
invariant-loop-i l = l.out ≡ put l.initial.out l.place (packed l.i l.marks)
