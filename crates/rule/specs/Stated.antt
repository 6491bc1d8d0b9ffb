-- What choosing a rule and scaling a coefficient state in document 01's terms.
use Rattle.std.specs.Prelude.{ℕ, suc, List, [], ◌∷◌, ℤ, pos, negsuc, Result, Ok, Err}
use Rattle.verdict.specs.Stated.{Stated, gives, stated_refusal}
use Rattle.verdict.specs.declared.Refusal.{Refusal}
use Rattle.rule.specs.declared.rules.Rule.{Rule}

-- the rule's length, sign and greatest word; a refusal of the length
abbrev pub stated_ruled : Result Rule Refusal → Stated
stated_ruled (Ok rule) = gives (rule.length ∷ rule.sign ∷ rule.greatest ∷ [])
stated_ruled (Err refusal) = stated_refusal refusal

-- a signed value as two numbers, of which it is the first less the second
abbrev pub parts : ℤ → List ℕ
parts (pos n) = n ∷ 0 ∷ []
parts (negsuc n) = 0 ∷ suc n ∷ []

-- the scaled coefficient; a refusal of the length or of the word
abbrev pub stated_scaled : Result ℤ Refusal → Stated
stated_scaled (Ok value) = gives (parts value)
stated_scaled (Err refusal) = stated_refusal refusal
