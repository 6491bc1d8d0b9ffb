-- What a walk over a matrix pack states in document 01's terms.
use Rattle.std.specs.Prelude.{ℕ, List, [], ◌∷◌, ◌++◌, Result, Ok, Err}
use Rattle.verdict.specs.declared.Stop.{Stop}
use Rattle.verdict.specs.Stated.{Stated, gives, stated_stop}
use Rattle.matrix.specs.Listed.{field_numbers}
use Rattle.matrixwalk.specs.declared.Found.{Found}

-- the fields, the place of the first word, how many coefficients are sent, the length
abbrev pub found_numbers : Found → List ℕ
found_numbers found = field_numbers found.fields ++ (found.words ∷ found.sent ∷ found.length ∷ [])

abbrev pub stated_walked : Result Found Stop → Stated
stated_walked (Ok found) = gives (found_numbers found)
stated_walked (Err stop) = stated_stop stop
