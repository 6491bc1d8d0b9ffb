-- Seven numbers as fields: when the rules of the numbers are kept, and that fields that were listed are given back. Assumes nothing.
use Prim.Native.Nat.{ℕ}
use mathlib.Core.Path.{◌≡◌, refl}
use mathlib.Core.Bool.{Bool, true, false, not, ◌&&◌, cond}
use mathlib.Core.List.{List, ◌++◌}
use native.Mathlib.Omega.{arith}
use borrow.Author.Tests.{le-leb}
use lib.Dec.{eqb, leb, ltb}
use lib.ListN.{length}
use Rattle.verdict.specs.declared.Reason.TheVariants.{Disagree}
use Rattle.verdict.specs.Rows.{Blamed}
use Rattle.verdict.proofs.Judging.{Kept}
use Rattle.matrix.specs.declared.Fields.{Fields}
use Rattle.matrix.specs.Header.{bit}
use Rattle.matrix.specs.Listed.{field_numbers}
use Rattle.cmatrix.specs.Writing.{fields_given, fields_fit, number_rows}

module _ (format : ℕ) (numbers : List ℕ) where
  pub other_format : ltb 1 format ≡ true → Blamed (number_rows format numbers) Disagree
  unfolding Blamed
  other_format h = rw h refl

  module _ (own : ltb 1 format ≡ false) (fit : Bool) (is : fit ≡ fields_fit numbers) where
    pub unfit : not fit ≡ true → Blamed (number_rows format numbers) Disagree
    unfolding Blamed
    unfit e = rw (own, ← is, e) refl

    pub numbers_kept : not fit ≡ false → Kept (number_rows format numbers)
    numbers_kept e = (own, (rw (← is) e, tt))

bit_given : (flag : Bool) → eqb (bit flag) 1 ≡ flag
bit_given true = refl
bit_given false = refl

bit_fits : (flag : Bool) → leb (bit flag) 1 ≡ true
bit_fits true = refl
bit_fits false = refl

mode_given : (one : Bool) → eqb (cond one 1 2) 1 ≡ one
mode_given true = refl
mode_given false = refl

mode_fits : (one : Bool) → leb 1 (cond one 1 2) && leb (cond one 1 2) 2 ≡ true
mode_fits true = refl
mode_fits false = refl

-- what reading lists, writing is given: the same fields, whatever stands behind them
pub listed_given : (f : Fields) (more : List ℕ) → (fields_given (field_numbers f ++ more) ≡ f) × (fields_fit (field_numbers f ++ more) ≡ true)
listed_given f more = (
  rw (bit_given f.cs, bit_given f.cf, bit_given f.sf, mode_given f.mode1) refl,
  rw (le-leb 7 (length (field_numbers f ++ more)) (omega arith), bit_fits f.cs, bit_fits f.cf, bit_fits f.sf, mode_fits f.mode1) refl,
)
