-- What the numbers that C gives are taken for, or their refusal. Assumes nothing.
use Prim.Native.Nat.{ℕ}
use mathlib.Core.Path.{◌≡◌, refl}
use mathlib.Core.Bool.{Bool, true, false, cond}
use mathlib.Core.List.{List}
use lib.Dec.{ltb}
use Rattle.std.specs.Prelude.{Result, Ok, Err}
use Rattle.std.specs.Result.{IsErrAnd}
use Rattle.verdict.specs.declared.Reason.TheVariants.{Disagree}
use Rattle.verdict.specs.declared.Refusal.{Refusal}
use Rattle.verdict.specs.Answers.{written}
use Rattle.verdict.specs.Writing.{refusing}
use Rattle.matrix.specs.declared.Fields.{Fields}
use Rattle.matrix.specs.declared.Told.{Told}
use Rattle.cmatrix.specs.Format.{told_by}
use Rattle.cmatrix.specs.Writing.{fields_given, fields_fit}
use Rattle.cmatrix.specs.Inside.{disagreeing, told_for, fields_for}

-- a test that chooses between an answer and a refusal
chosen : {A : Type 0} (test : Bool) (a b : A) → Ok a ≡ cond test (Err disagreeing) (Ok b) → (test ≡ false) × (a ≡ b)
chosen true a b e = cc
chosen false a b e = (refl, cc)

refused : {A : Type 0} (test : Bool) (refusal : Refusal) (b : A) → Err refusal ≡ cond test (Err disagreeing) (Ok b) → (test ≡ true) × (refusal ≡ disagreeing)
refused true refusal b e = (refl, cc)
refused false refusal b e = cc

pub told_own : (format : ℕ) (told : Told) → Ok told ≡ told_for format → (ltb 1 format ≡ false) × (told ≡ told_by format)
told_own format told e = chosen (ltb 1 format) told (told_by format) e

pub told_other : (format : ℕ) (refusal : Refusal) → Err refusal ≡ told_for format → (ltb 1 format ≡ true) × (refusal ≡ disagreeing)
told_other format refusal e = refused (ltb 1 format) refusal (told_by format) e

pub fields_own : (numbers : List ℕ) (given : Fields) → Ok given ≡ fields_for numbers → (fields_fit numbers ≡ true) × (given ≡ fields_given numbers)
fields_own numbers given e = by (fields_fit numbers) e
  where
    by : (t : Bool) → Ok given ≡ cond t (Ok (fields_given numbers)) (Err disagreeing) → (t ≡ true) × (given ≡ fields_given numbers)
    by true e = (refl, cc)
    by false e = cc

pub fields_other : (numbers : List ℕ) (refusal : Refusal) → Err refusal ≡ fields_for numbers → (fields_fit numbers ≡ false) × (refusal ≡ disagreeing)
fields_other numbers refusal e = by (fields_fit numbers) e
  where
    by : (t : Bool) → Err refusal ≡ cond t (Ok (fields_given numbers)) (Err disagreeing) → (t ≡ false) × (refusal ≡ disagreeing)
    by true e = cc
    by false e = (refl, cc)

-- a writer passes the refusal on
pub written_disagreeing : (answer : Result ℕ Refusal) (refusal : Refusal) → refusal ≡ disagreeing → IsErrAnd answer (λ r. r ≡ refusal) → written answer ≡ refusing Disagree
written_disagreeing (Ok count) refusal e x = absurd x
written_disagreeing (Err r) refusal e x = rw (x, e) refl
