-- What is said of a frame, in document 01's terms.
use Rattle.std.specs.Prelude.{[], ◌∷◌}
use Rattle.verdict.specs.Stated.{Stated, gives, misses, stated_refusal}
use Rattle.outcome.specs.declared.Outcome.{Outcome}
use Rattle.outcome.specs.declared.Outcome.TheVariants.{Ok, Cut, Bad, Open}

-- `OK` the value's length, `CUT` what is missing, `BAD` the reason and the place, and `OPEN` nothing
abbrev pub stated_outcome : Outcome → Stated
stated_outcome (Ok n) = gives (n ∷ [])
stated_outcome (Cut missing) = misses missing
stated_outcome (Bad refusal) = stated_refusal refusal
stated_outcome Open = gives []
