-- What reading a word, and judging many, state in document 01's terms.
use Rattle.std.specs.Prelude.{ℕ, [], ◌∷◌, Result, Ok, Err}
use Rattle.verdict.specs.Numbers.{number_of}
use Rattle.verdict.specs.Stated.{Stated, gives, refuses, stated_stop}
use Rattle.verdict.specs.declared.Reason.{Reason}
use Rattle.verdict.specs.declared.Stop.{Stop}

-- the word; so many of its bytes missing; a refusal of its length
abbrev pub stated_read : Result ℕ Stop → Stated
stated_read (Ok word) = gives (word ∷ [])
stated_read (Err stop) = stated_stop stop

-- nothing of bytes that are as many as the words have; else a refusal at place 0
abbrev pub stated_judged : Result Unit Reason → Stated
stated_judged (Ok kept) = gives []
stated_judged (Err reason) = refuses (number_of reason) 0
