-- What the check of what the writer of matrix packs is given states in document 01's terms.
use Rattle.std.specs.Prelude.{ℕ, [], ◌∷◌, Result, Ok, Err}
use Rattle.verdict.specs.declared.Refusal.{Refusal}
use Rattle.verdict.specs.Stated.{Stated, gives, stated_refusal}

-- how many coefficients are sent; the refusal of the first broken rule
abbrev pub stated_checked : Result ℕ Refusal → Stated
stated_checked (Ok sent) = gives (sent ∷ [])
stated_checked (Err refusal) = stated_refusal refusal
