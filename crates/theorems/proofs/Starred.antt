-- The rows are said, as one statement over the list, against the definitions of packs and tables. Assumes nothing.
use Prim.Native.Nat.{ℕ, zero, suc, ◌<◌}
use mathlib.Core.Path.{◌≡◌, refl, ap, subst}
use mathlib.Core.Bool.{Bool, true, ◌&&◌, and-eq-true_iff}
use mathlib.Core.List.{List, [], ◌∷◌, map}
use borrow.Author.Tests.{ltb-true}
use lib.Dec.{ltb}
use lib.ListN.{get_or, drop}
use native.Mathlib.Omega.{arith}
use Rattle.verdict.specs.declared.Verdict.{Verdict}
use Rattle.verdict.specs.Machine.{run}
use Rattle.verdict.specs.Rows.{judged}
use Rattle.verdict.specs.Says.{Bytes}
use Rattle.word.specs.Digits.{digits}
use Rattle.matrix.specs.Meaning.{sum}
use Rattle.matrix.specs.Machine.{enter, run_bytes, verdict_of}
use Rattle.theorems.proofs.MatrixVerdicts.{matrix_said}
use Rattle.array.specs.Machine.{verdict_of as arrayVerdictOf}
use Rattle.theorems.proofs.ArrayVerdicts.{array_said}
use Rattle.theorems.specs.Rows.{Kind, matrix, array, Row, under, column, telling_rows, double_rows, single_rows, ieee_rows, mapped_rows, array_rows, rows, SaysOf, Said}

abbrev verdict_by : Kind → List ℕ → Verdict
verdict_by (matrix told) = verdict_of told
verdict_by array = arrayVerdictOf

-- whether each of some numbers is a byte
abbrev pub bytely : List ℕ → Bool
bytely [] = true
bytely (b ∷ bs) = ltb b 256 && bytely bs

pub bytely_bytes : (bs : List ℕ) → bytely bs ≡ true → Bytes bs
bytely_bytes [] e i = omega arith
bytely_bytes (b ∷ bs) e i = at i ((and-eq-true_iff (ltb b 256) (bytely bs)).0 e) (λ h k. bytely_bytes bs h k)
  where
    at : (i : ℕ) → (ltb b 256 ≡ true) × (bytely bs ≡ true) → (bytely bs ≡ true → (k : ℕ) → get_or bs k 0 < 256) → get_or (b ∷ bs) i 0 < 256
    at zero h ih = ltb-true b 256 h.0
    at (suc i) h ih = ih h.1 i

-- the run of each kind says its verdict
kind_said : (kind : Kind) (bs : List ℕ) → Bytes bs → SaysOf kind bs (verdict_by kind bs)
kind_said (matrix told) = matrix_said told
kind_said array = array_said

-- where the runs say what the rows say, so do the definitions
run_said : (rs : List Row) → map (λ (r : Row). bytely r.bytes) rs ≡ map (λ (r : Row). true) rs → map (λ (r : Row). verdict_by r.kind r.bytes) rs ≡ map (λ (r : Row). r.said) rs → Said rs
run_said [] b e = tt
run_said (r ∷ rs) b e = (
  subst (SaysOf r.kind r.bytes) (ap (λ (l : List Verdict). get_or l 0 r.said) e) (kind_said r.kind r.bytes (bytely_bytes r.bytes (ap (λ (l : List Bool). get_or l 0 true) b))),
  run_said rs (ap (drop 1) b) (ap (drop 1) e),
)

pub rows_said : Said rows
unfolding rows under column telling_rows double_rows single_rows ieee_rows mapped_rows array_rows run judged enter run_bytes sum digits
rows_said = run_said rows refl refl
