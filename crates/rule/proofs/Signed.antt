-- Laws of a word less its nought, as it is computed in 64 bits. Assumes nothing.
use Prim.Native.Nat.{ℕ, zero, suc, ◌-◌, ◌*◌, ◌/◌, ◌^◌, ◌≤◌, ◌<◌}
use mathlib.Core.Path.{◌≡◌, ◌∙◌, ap}
use native.Mathlib.Omega.{arith}
use native.Mathlib.Nat.{pow-suc, pow-le-pow_right}
use borrow.Author.Tests.{lt-ltb, le-ltb, ne_eqb}
use lib.IntN.{pos, negsuc, sub_ℕ, ◌-ℤ◌}
use mir.Syntax.{w64}
use mir.Val.{SFits, to_z, of_z}
use mir.ValLaws.{to_z_pos, to_z-of_z}
use Rattle.std.specs.Prelude.{Ok}
use Rattle.rule.specs.Scaled.{nought_of, scaled_of}

-- the greatest mapped word is twice the nought
pub nought_twice : (n : ℕ) → 1 ≤ n → 256 ^ n / 2 ≡ 2 * (256 ^ n / 4)
nought_twice zero h = absurd (omega arith)
nought_twice (suc n) h = rw pow-suc (omega arith)

pub nought_small : (n : ℕ) → n ≤ 8 → 256 ^ n / 4 ≤ 2 ^ 62
nought_small n h = omega (arith, pow-le-pow_right {n = 256} (omega arith) {i = n} {j = 8} h)

-- a word below its nought
module _ (w u : ℕ) (h : w < u) (k : u ≤ 2 ^ 62) where
  less_below : pos 0 -ℤ to_z w64 (u - w) ≡ sub_ℕ w u
  less_below =
      let d : u - w ≡ suc (u - suc w) = omega arith in
      ap (◌-ℤ◌ (pos 0)) (to_z_pos w64 (u - w) (omega arith) ∙ ap pos d)
      ∙ simp (lt-ltb w u h, lt-ltb 0 (suc (u - suc w)) (omega arith)) (ap negsuc (omega arith))

  pub less_fits : SFits w64 (pos 0 -ℤ to_z w64 (u - w))
  less_fits = rw (less_below, lt-ltb w u h) (record { sfits = omega arith })

  pub less_back : to_z w64 (of_z w64 (pos 0 -ℤ to_z w64 (u - w))) ≡ sub_ℕ w u
  less_back = to_z-of_z w64 (pos 0 -ℤ to_z w64 (u - w)) less_fits ∙ less_below

-- a lawful word of a lawful length is its difference to the nought
pub scaled_value : (w n : ℕ) → 1 ≤ n → n ≤ 8 → w ≤ 256 ^ n / 2 → scaled_of w n ≡ Ok (sub_ℕ w (nought_of n))
scaled_value w n h k l = simp (ne_eqb n 0 (λ e. omega arith), le-ltb 8 n k, le-ltb (256 ^ n / 2) w l)
