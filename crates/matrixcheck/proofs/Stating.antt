-- What the check of what the writer is given states: the first broken rule's number, at place 0, or how many coefficients are sent. Assumes nothing.
use Prim.Native.Nat.{ℕ}
use mathlib.Core.Path.{◌≡◌, refl}
use mathlib.Core.Bool.{Bool, true, false, cond}
use mathlib.Core.List.{List, [], ◌∷◌}
use Rattle.verdict.specs.Numbers.{number_of}
use Rattle.verdict.specs.Rows.{Row}
use Rattle.verdict.specs.Stated.{Stated, gives, refuses}
use Rattle.matrixcheck.specs.Checking.{refused_for, checked_of}
use Rattle.matrixcheck.specs.Stated.{stated_checked}

abbrev pub rows_state : List Row → ℕ → Stated
rows_state [] sent = gives (sent ∷ [])
rows_state (row ∷ rows) sent = cond row.broken (refuses (number_of row.reason) 0) (rows_state rows sent)

pub checked_states : (rows : List Row) (sent : ℕ) → stated_checked (checked_of rows sent) ≡ rows_state rows sent
checked_states [] sent = refl
checked_states (row ∷ rows) sent = by row.broken (checked_states rows sent)
  where
    by : (t : Bool) → stated_checked (checked_of rows sent) ≡ rows_state rows sent → stated_checked (cond t (refused_for row.reason) (checked_of rows sent)) ≡ cond t (refuses (number_of row.reason) 0) (rows_state rows sent)
    by true e = refl
    by false e = e
