-- What is asked of the program, in document 01's terms.
use Rattle.std.specs.Prelude.{[], ◌∷◌, Result, Ok, Err}
use Rattle.verdict.specs.declared.Refusal.{Refusal}
use Rattle.verdict.specs.Stated.{Stated, gives, stated_refusal}
use Rattle.shelfwork.specs.declared.Ask.{Ask}
use Rattle.shelfwork.specs.declared.Ask.TheVariants.{Read, Write, Say, Stop}

-- how many bytes are to be written or said; nothing to read or to stop; or the refusal
abbrev pub stated_ask : Result Ask Refusal → Stated
stated_ask (Ok Read) = gives []
stated_ask (Ok (Write count)) = gives (count ∷ [])
stated_ask (Ok (Say count)) = gives (count ∷ [])
stated_ask (Ok Stop) = gives []
stated_ask (Err refusal) = stated_refusal refusal
