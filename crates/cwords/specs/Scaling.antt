-- Mapped coefficients scaled: what C is answered, and what is left in the lent list.
use Rattle.std.specs.Prelude.{ℕ, suc, ◌/◌, ◌^◌, ◌≡◌, not, ◌||◌, List, ◌∷◌, map, eqb, ltb, ℤ, length}
use Rattle.std.proofs.Math.IntN.{sub_ℕ}
use Rattle.verdict.specs.declared.Reason.TheVariants.{ValueLength, ValueRange}
use Rattle.verdict.specs.declared.Verdict.{Verdict}
use Rattle.verdict.specs.declared.Verdict.TheVariants.{Complete}
use Rattle.verdict.specs.Rows.{Row}
use Rattle.verdict.specs.Lent.{left_for}
use Rattle.verdict.specs.Writing.{decided, room_rows}
use Rattle.word.specs.Many.{all_below}
use Rattle.rule.specs.Scaled.{nought_of}

-- a word less the nought of its length
abbrev pub less : ℕ → ℕ → ℤ
less n word = sub_ℕ word (nought_of n)

-- each word so
abbrev pub scaled_all : ℕ → List ℕ → List ℤ
scaled_all n words = map (less n) words

-- 6 for a length of 0 or above 8, then 11 for a word above 2^(8L − 1), then 13 for fewer entries than words
abbrev pub scale_rows : ℕ → List ℕ → ℕ → List Row
scale_rows n words room =
    record { broken = eqb n 0 || ltb 8 n; reason = ValueLength }
    ∷ record { broken = not (all_below (suc (256 ^ n / 2)) words); reason = ValueRange }
    ∷ room_rows (length words) room

-- by these rules in their order: the count of words, and the list with them scaled; or a refusal, and the list as it was
pub record ScaledInto (words : List ℕ) (n : ℕ) (out : List ℤ) (answer : Verdict) (out' : List ℤ) : Type 0 where
  pub said : answer ≡ decided (scale_rows n words (length out)) (Complete (length words))
  pub left : out' ≡ left_for (decided (scale_rows n words (length out)) (Complete (length words))) (scaled_all n words) out
