-- What drawing a number states in document 01's terms.
use Rattle.std.specs.Prelude.{◌*◌, [], ◌∷◌, Result, Ok, Err}
use Rattle.verdict.specs.Stated.{Stated, gives, stated_refusal}
use Rattle.number.specs.declared.Number.{Number}
use Rattle.number.specs.declared.Undrawn.{Undrawn}
use Rattle.number.specs.declared.Undrawn.TheVariants.{Cut, Refused}

-- the number and the place behind it; of one that is cut, its value with the smallest ending, one octet 0x00; a refusal's number and place
abbrev pub stated_drawn : Result Number Undrawn → Stated
stated_drawn (Ok number) = gives (number.value ∷ number.next ∷ [])
stated_drawn (Err (Cut value)) = gives (value * 128 ∷ [])
stated_drawn (Err (Refused refusal)) = stated_refusal refusal
