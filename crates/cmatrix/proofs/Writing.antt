-- What is written of seven numbers: 14 where they are no fields, else what the writer does with the fields that they are. Assumes nothing.
use Prim.Native.Nat.{ℕ}
use mathlib.Core.Path.{◌≡◌, subst}
use mathlib.Core.Bool.{Bool, true, false, not}
use mathlib.Core.List.{List}
use lib.Dec.{eqb, ltb}
use Rattle.verdict.specs.declared.Reason.TheVariants.{Disagree}
use Rattle.verdict.specs.declared.Verdict.{Verdict}
use Rattle.verdict.specs.Rows.{Row}
use Rattle.verdict.specs.Writing.{refusing, WrittenBy}
use Rattle.verdict.proofs.Deciding.{written_on, written_off}
use Rattle.matrix.specs.declared.Fields.{Fields}
use Rattle.matrix.specs.Spelling.{bytes_of}
use Rattle.matrixcheck.specs.Given.{meaning_given}
use Rattle.matrixwriter.specs.Writing.{writer_rows}
use Rattle.cmatrix.specs.Writing.{fields_given, fields_fit, number_rows, MatrixWritten}
use Rattle.cmatrix.proofs.FieldNumbers.{other_format, unfit, numbers_kept}

module _ (format : ℕ) (numbers deviations coefficients marks out : List ℕ) where
  -- by the writer of these fields
  abbrev By : Fields → Verdict → List ℕ → Type 0
  By f = WrittenBy (writer_rows (eqb format 1) f deviations coefficients marks out) (bytes_of (meaning_given f deviations coefficients marks)) out 0

  -- the rules of the writer, behind those of the numbers
  abbrev behind : List Row
  behind = writer_rows (eqb format 1) (fields_given numbers) deviations coefficients marks out

  pub other_written : ltb 1 format ≡ true → MatrixWritten format numbers deviations coefficients marks out (refusing Disagree) out
  other_written h = written_off (number_rows format numbers) behind _ out 0 Disagree (other_format format numbers h)

  module _ (own : ltb 1 format ≡ false) (fit : Bool) (is : fit ≡ fields_fit numbers) where
    pub unfit_written : not fit ≡ true → MatrixWritten format numbers deviations coefficients marks out (refusing Disagree) out
    unfit_written e = written_off (number_rows format numbers) behind _ out 0 Disagree (unfit format numbers own fit is e)

    pub fit_written : not fit ≡ false → (f : Fields) → f ≡ fields_given numbers → (answer : Verdict) (out' : List ℕ) → By f answer out' → MatrixWritten format numbers deviations coefficients marks out answer out'
    fit_written e f given answer out' w =
        written_on (number_rows format numbers) behind (bytes_of (meaning_given (fields_given numbers) deviations coefficients marks)) out 0 answer out' (numbers_kept format numbers own fit is e)
        (subst (λ (g : Fields). By g answer out') given w)
