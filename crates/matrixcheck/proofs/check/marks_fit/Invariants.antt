-- Whether the marks passed fit.
use Rattle.std.proofs.Common.{◌≡◌, ◌≤◌, ◌&&◌, cond, leb, min, take}
use Rattle.matrix.specs.declared.Fields.{Fields}
use Rattle.matrixcheck.specs.Given.{marks_fit}
use Rattle.matrixcheck.proofs.check.marks_fit.Given as goal

abbrev pub invariant-loop-mark : goal.invariant-loop-mark
invariant-loop-mark l = (l.all ≤ l.most) × ((f : Fields) → l.most ≡ min 1 f.clen → l.least ≡ cond f.cs 0 l.most → leb l.any l.most && leb l.least l.all ≡ marks_fit f (take l.mark-index l.marks))
