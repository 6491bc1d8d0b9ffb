-- Which words scale, and what they are scaled to. Assumes nothing.
use Prim.Native.Nat.{ℕ, ◌/◌, ◌^◌, ◌≤◌}
use mathlib.Core.Path.{◌≡◌, refl, ap}
use mathlib.Core.Bool.{Bool, ◌&&◌}
use mathlib.Core.List.{List, [], ◌∷◌}
use native.Mathlib.Omega.{arith}
use borrow.Author.Tests.{ltb-false}
use lib.Dec.{ltb}
use lib.IntN.{ℤ, pos}
use mir.Syntax.{w64}
use mir.Val.{SFits, to_z, of_z}
use mir.ValLaws.{to_z-of_z}
use Rattle.std.specs.Prelude.{Result, Ok, Err}
use Rattle.std.specs.List.{list_all}
use Rattle.verdict.specs.declared.Refusal.{Refusal}
use Rattle.verdict.proofs.Cases.{either}
use Rattle.word.specs.Many.{all_below}
use Rattle.rule.specs.Scaled.{nought_of}
use Rattle.rule.proofs.Signed.{nought_twice, nought_small}
use Rattle.cwords.specs.Scaling.{less}

-- the value; 0 where there is none
abbrev pub value_in : Result ℤ Refusal → ℤ
value_in (Ok value) = value
value_in (Err refusal) = pos 0

module _ (w n : ℕ) (least : 1 ≤ n) (most : n ≤ 8) (within : w ≤ 256 ^ n / 2) where
  value_fits : SFits w64 (less n w)
  value_fits =
      either (ltb w (nought_of n))
      (λ t. rw t (record { sfits = omega (arith, nought_small n most) }))
      (λ t. rw t (record { sfits = omega (arith, nought_small n most, nought_twice n least, ltb-false w (nought_of n) t) }))

  -- it is the same in 64 bits
  pub value_kept : (value : ℤ) → value ≡ less n w → to_z w64 (of_z w64 value) ≡ less n w
  value_kept value is = rw is (to_z-of_z w64 (less n w) value_fits)

-- words are below a limit where each is
pub all_below_each : (limit : ℕ) (words : List ℕ) → list_all (λ (word : ℕ). ltb word limit) words ≡ all_below limit words
unfolding all_below
all_below_each limit [] = refl
all_below_each limit (word ∷ words) = ap (λ (t : Bool). ltb word limit && t) (all_below_each limit words)
