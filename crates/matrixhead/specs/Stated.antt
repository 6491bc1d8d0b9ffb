-- What the beginning of a matrix pack, and the fields that a writer is given, state in document 01's terms.
use Rattle.std.specs.Prelude.{[], ◌∷◌, ◌++◌, Result, Ok, Err}
use Rattle.verdict.specs.declared.Refusal.{Refusal}
use Rattle.verdict.specs.declared.Stop.{Stop}
use Rattle.verdict.specs.Stated.{Stated, gives, stated_refusal, stated_stop}
use Rattle.matrix.specs.Listed.{field_numbers}
use Rattle.matrixhead.specs.declared.Begun.{Begun}

-- the fields, the place of the first word and how many coefficients are sent
abbrev pub stated_begun : Result Begun Stop → Stated
stated_begun (Ok begun) = gives (field_numbers begun.fields ++ (begun.words ∷ begun.sent ∷ []))
stated_begun (Err stop) = stated_stop stop

-- nothing where the fields keep their rules
abbrev pub stated_allowed : Result Unit Refusal → Stated
stated_allowed (Ok kept) = gives []
stated_allowed (Err refusal) = stated_refusal refusal
