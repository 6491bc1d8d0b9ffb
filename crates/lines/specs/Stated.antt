-- What taking characters answers, in document 01's terms.
use Rattle.std.specs.Prelude.{[], ◌∷◌, Result, Ok, Err}
use Rattle.verdict.specs.declared.Refusal.{Refusal}
use Rattle.verdict.specs.Stated.{Stated, gives, stated_refusal}
use Rattle.lines.specs.declared.Taken.{Taken}

-- how many of the open line's characters are held, how many were taken; or the refusal
abbrev pub stated_taking : Result Taken Refusal → Stated
stated_taking (Ok taken) = gives (taken.held ∷ taken.count ∷ [])
stated_taking (Err refusal) = stated_refusal refusal
