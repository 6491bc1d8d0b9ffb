-- The scaled coefficient is exact at −1, 0 and +1, at every length from 1 to 8. Assumes nothing.
use Prim.Native.Nat.{ℕ, zero, suc, ◌*◌, ◌^◌, ◌≤◌}
use mathlib.Core.Path.{◌≡◌, refl, ◌∙◌, ap}
use native.Mathlib.Omega.{arith}
use native.Mathlib.Nat.{sub_self}
use borrow.Author.Tests.{lt-ltb, le-ltb}
use lib.IntN.{pos, negsuc, neg_ℤ, sub_ℕ}
use Rattle.std.specs.Prelude.{Ok}
use Rattle.rule.specs.Scaled.{nought_of, scaled_of}
use Rattle.rule.proofs.Signed.{nought_twice, scaled_value}

none_less : (u : ℕ) → sub_ℕ 0 u ≡ neg_ℤ (pos u)
none_less zero = refl
none_less (suc u) = simp (lt-ltb 0 (suc u) (omega arith)) (ap negsuc (omega arith))

module _ (n : ℕ) (h : 1 ≤ n) (k : n ≤ 8) where
  pub scaled_minus_one : scaled_of 0 n ≡ Ok (neg_ℤ (pos (nought_of n)))
  scaled_minus_one = scaled_value 0 n h k (omega arith) ∙ ap Ok (none_less (nought_of n))

  pub scaled_nought : scaled_of (nought_of n) n ≡ Ok (pos 0)
  scaled_nought = scaled_value (nought_of n) n h k (omega (arith, nought_twice n h)) ∙ simp (le-ltb (nought_of n) (nought_of n) (omega arith)) (ap (λ (z : ℕ). Ok (pos z)) (sub_self (nought_of n)))

  pub scaled_one : scaled_of (nought_of n * 2) n ≡ Ok (pos (nought_of n))
  scaled_one =
      scaled_value (nought_of n * 2) n h k (omega (arith, nought_twice n h))
      ∙ simp (le-ltb (nought_of n * 2) (nought_of n) (omega arith)) (ap (λ (z : ℕ). Ok (pos z)) (omega arith))

-- the greatest word of all, 2^63 in eight bytes, is +1
pub scaled_last : scaled_of (2 ^ 63) 8 ≡ Ok (pos (2 ^ 62))
scaled_last = refl
