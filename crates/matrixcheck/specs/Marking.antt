-- For private functions alone: what counting the marks answers.
use Rattle.std.specs.Prelude.{ℕ, cond, List, Option, Some, None}
use Rattle.matrix.specs.declared.Fields.{Fields}
use Rattle.matrix.specs.Meaning.{sum}
use Rattle.matrixcheck.specs.Given.{marks_fit}

-- how many marks are 1, where all fit
abbrev pub marked_of : Fields → List ℕ → Option ℕ
marked_of f marks = cond (marks_fit f marks) (Some (sum marks)) None
