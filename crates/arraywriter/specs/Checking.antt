-- For private functions alone: what the parts of the writer of array packs answer to each other.
use Rattle.std.specs.Prelude.{ℕ, cond, List, [], ◌∷◌, Result, Ok, Err}
use Rattle.verdict.specs.declared.Reason.{Reason}
use Rattle.verdict.specs.Rows.{Row}

-- the first broken rule's reason, or this product
abbrev pub measured_of : List Row → ℕ → Result ℕ Reason
measured_of [] product = Ok product
measured_of (row ∷ rows) product = cond row.broken (Err row.reason) (measured_of rows product)
