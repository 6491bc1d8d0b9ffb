-- What reading a matrix pack answers.
use Rattle.std.specs.Prelude.{ℕ, List, Result, Ok, Err}
use Rattle.verdict.specs.declared.Stop.{Stop}
use Rattle.verdict.specs.declared.Stop.TheVariants.{Unfinished as StopUnfinished, Refused as StopRefused}
use Rattle.verdict.specs.declared.Verdict.{Verdict}
use Rattle.verdict.specs.declared.Verdict.TheVariants.{Complete, Unfinished, Refused}
use Rattle.matrixreader.specs.declared.MatrixRead.{MatrixRead}
use Rattle.matrix.specs.declared.Told.{Told}
use Rattle.matrix.specs.Spelling.{meaning_of}
use Rattle.matrix.specs.Machine.{verdict_of}

-- the fields of the meaning that a complete pack's bytes have, with its length; else why there is none
abbrev pub matrix_read_for : Told → List ℕ → Verdict → Result MatrixRead Stop
matrix_read_for told bytes (Complete length) = Ok (record { fields = (meaning_of told bytes).fields; length = length })
matrix_read_for told bytes (Unfinished missing) = Err (StopUnfinished missing)
matrix_read_for told bytes (Refused refusal) = Err (StopRefused refusal)

abbrev pub matrix_read_of : Told → List ℕ → Result MatrixRead Stop
matrix_read_of told bytes = matrix_read_for told bytes (verdict_of told bytes)
