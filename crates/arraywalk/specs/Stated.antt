-- What a walk over an array pack's numbers states in document 01's terms.
use Rattle.std.specs.Prelude.{ℕ, ◌-◌, ◌*◌, [], ◌∷◌, Result, Ok, Err}
use Rattle.verdict.specs.declared.Verdict.{Verdict}
use Rattle.verdict.specs.declared.Verdict.TheVariants.{Complete, Unfinished, Refused}
use Rattle.verdict.specs.declared.Stop.{Stop}
use Rattle.verdict.specs.Stated.{Stated, gives, stated_stop}
use Rattle.array.specs.Meaning.{product}
use Rattle.array.specs.Meaning.{Array as Meant}
use Rattle.arraywalk.specs.declared.Found.{Found}

-- NDim, E, the place of the array's first byte and the length; what is missing; a refusal's number and place
abbrev pub stated_walked : Result Found Stop → Stated
stated_walked (Ok found) = gives (found.dims ∷ found.element ∷ found.start ∷ found.length ∷ [])
stated_walked (Err stop) = stated_stop stop

-- the length that a complete verdict has
abbrev pub length_in : Verdict → ℕ
length_in (Complete n) = n
length_in (Unfinished missing) = 0
length_in (Refused refusal) = 0

-- where the array begins: so many bytes before the end
abbrev pub start_of : Meant → ℕ → ℕ
start_of a end = end - product a.sizes * a.element
