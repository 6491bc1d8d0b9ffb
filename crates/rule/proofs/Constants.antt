-- The greatest words and the ones are those of IEEE 754, and the mapped limits are powers of two. Assumes nothing.
use Prim.Native.Nat.{ℕ, suc, ◌+◌, ◌-◌, ◌*◌, ◌/◌, ◌^◌}
use mathlib.Core.Path.{◌≡◌, refl}
use mathlib.Core.Bool.{true, false}
use native.Mathlib.Omega.{arith}
use lib.IntN.{ℤ, pos}
use lib.Ieee as ieee
use lib.Ieee.{binary32, binary64, inf, fin, of_bits}
use Rattle.rule.specs.Rules.{Format, half, single, double, coefficients}
use Rattle.rule.specs.Scaled.{nought_of}
use Rattle.word.proofs.Digits.{over_bits}

-- the one is exactly 1, the greatest is finite and the next word is not; with the sign set each is the negative
pub record Held (f : ieee.Format) (w : Format) : Type 0 where
  pub one : of_bits f w.one ≡ fin false 1 (pos 0)
  pub minus_one : of_bits f ((coefficients w).sign + w.one) ≡ fin true 1 (pos 0)
  pub digits : ℕ
  pub exponent : ℤ
  pub greatest : of_bits f w.greatest ≡ fin false digits exponent
  pub minus_greatest : of_bits f ((coefficients w).sign + w.greatest) ≡ fin true digits exponent
  pub next : of_bits f (suc w.greatest) ≡ inf false

pub single_held : Held binary32 single
unfolding of_bits
single_held = record { one = refl; minus_one = refl; digits = 2 ^ 24 - 1; exponent = pos 104; greatest = refl; minus_greatest = refl; next = refl }

pub double_held : Held binary64 double
unfolding of_bits
double_held = record { one = refl; minus_one = refl; digits = 2 ^ 53 - 1; exponent = pos 971; greatest = refl; minus_greatest = refl; next = refl }

-- a format by its bits: a sign, the exponent and the digits; the one has the middle exponent, the greatest the last finite one and every digit
pub record InBits (exponent digits : ℕ) (w : Format) : Type 0 where
  pub bytes : 8 * w.bytes ≡ 1 + exponent + digits
  pub one : w.one ≡ (2 ^ (exponent - 1) - 1) * 2 ^ digits
  pub greatest : w.greatest ≡ (2 ^ exponent - 2) * 2 ^ digits + (2 ^ digits - 1)

pub half_in_bits : InBits 5 10 half
half_in_bits = record { bytes = refl; one = refl; greatest = refl }

pub single_in_bits : InBits 8 23 single
single_in_bits = record { bytes = refl; one = refl; greatest = refl }

pub double_in_bits : InBits 11 52 double
double_in_bits = record { bytes = refl; one = refl; greatest = refl }

pub mapped_greatest : (n : ℕ) → 256 ^ suc n / 2 ≡ 2 ^ (8 * suc n - 1)
mapped_greatest n = over_bits (suc n) 1 (omega arith)

pub mapped_nought : (n : ℕ) → nought_of (suc n) ≡ 2 ^ (8 * suc n - 2)
mapped_nought n = over_bits (suc n) 2 (omega arith)
