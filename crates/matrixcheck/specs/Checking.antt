-- What the check of what the writer of matrix packs is given answers.
use Rattle.std.specs.Prelude.{ℕ, ◌≤◌, cond, List, [], ◌∷◌, Result, Ok, Err, length}
use Rattle.verdict.specs.declared.Reason.{Reason}
use Rattle.verdict.specs.declared.Refusal.{Refusal}
use Rattle.verdict.specs.Rows.{Row}
use Rattle.matrix.specs.declared.Fields.{Fields}
use Rattle.matrix.specs.Meaning.{pairs}

-- a writer's refusal: its place is 0
abbrev pub refused_for : Reason → Result ℕ Refusal
refused_for reason = Err (record { reason = reason; place = 0 })

-- the first broken rule's refusal, or so many sent
abbrev pub checked_of : List Row → ℕ → Result ℕ Refusal
checked_of [] sent = Ok sent
checked_of (row ∷ rows) sent = cond row.broken (refused_for row.reason) (checked_of rows sent)

-- for private functions alone: the first broken rule's reason, or so many sent
abbrev pub judged_of : List Row → ℕ → Result ℕ Reason
judged_of [] sent = Ok sent
judged_of (row ∷ rows) sent = cond row.broken (Err row.reason) (judged_of rows sent)

-- lists with enough entries
pub record Enough (f : Fields) (deviations coefficients marks : List ℕ) : Type 0 where
  pub deviations_enough : f.n ≤ length deviations
  pub coefficients_enough : pairs f.n ≤ length coefficients
  pub marks_enough : pairs f.n ≤ length marks
