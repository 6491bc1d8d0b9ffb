-- What feeding answers, in document 01's terms.
use Rattle.std.specs.Prelude.{[], ◌∷◌, Result, Ok, Err}
use Rattle.verdict.specs.declared.Refusal.{Refusal}
use Rattle.verdict.specs.Stated.{Stated, gives, stated_refusal}
use Rattle.report.specs.declared.feed.Fed.{Fed}

-- the open line's number, how many of its characters are held, how many were taken, how many were written; or the refusal
abbrev pub stated_feeding : Result Fed Refusal → Stated
stated_feeding (Ok fed) = gives (fed.state.number ∷ fed.state.held ∷ fed.taken ∷ fed.written ∷ [])
stated_feeding (Err refusal) = stated_refusal refusal
