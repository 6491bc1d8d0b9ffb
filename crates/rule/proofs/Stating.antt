-- What choosing a rule and scaling a coefficient state. Assumes nothing.
use Prim.Native.Nat.{ℕ, ◌/◌, ◌^◌}
use mathlib.Core.Path.{◌≡◌, refl}
use mathlib.Core.Bool.{Bool, true, false, ◌||◌, cond}
use mathlib.Core.List.{[], ◌∷◌}
use lib.Dec.{eqb, ltb}
use lib.IntN.{sub_ℕ}
use Rattle.std.specs.Prelude.{Ok, Err}
use Rattle.verdict.specs.declared.Reason.TheVariants.{ValueLength, ValueRange}
use Rattle.verdict.specs.Stated.{gives, refuses}
use Rattle.rule.specs.declared.rules.Rule.{Rule}
use Rattle.rule.specs.Rules.{allowed, ruled_by}
use Rattle.rule.specs.Scaled.{nought_of, scaled_of}
use Rattle.rule.specs.Stated.{stated_ruled, parts, stated_scaled}

-- the rule where the format allows the length, else 6
pub ruled_states : (mapped : Bool) (n : ℕ) (rule : Rule) → stated_ruled (ruled_by mapped n rule) ≡ cond (allowed mapped n) (gives (rule.length ∷ rule.sign ∷ rule.greatest ∷ [])) (refuses 6 0)
ruled_states mapped n rule = by (allowed mapped n)
  where
    by : (t : Bool) → stated_ruled (cond t (Ok rule) (Err (record { reason = ValueLength; place = 0 }))) ≡ cond t (gives (rule.length ∷ rule.sign ∷ rule.greatest ∷ [])) (refuses 6 0)
    by true = refl
    by false = refl

-- 6 for a length of 0 or above 8, 11 for a word above its limit, else the word less the nought
pub scaled_states : (word n : ℕ) → stated_scaled (scaled_of word n) ≡ cond (eqb n 0 || ltb 8 n) (refuses 6 0) (cond (ltb (256 ^ n / 2) word) (refuses 11 0) (gives (parts (sub_ℕ word (nought_of n)))))
scaled_states word n = by (eqb n 0 || ltb 8 n) (ltb (256 ^ n / 2) word)
  where
    by : (length range : Bool)
        → stated_scaled (cond length (Err (record { reason = ValueLength; place = 0 })) (cond range (Err (record { reason = ValueRange; place = 0 })) (Ok (sub_ℕ word (nought_of n)))))
        ≡ cond length (refuses 6 0) (cond range (refuses 11 0) (gives (parts (sub_ℕ word (nought_of n)))))
    by true range = refl
    by false true = refl
    by false false = refl
