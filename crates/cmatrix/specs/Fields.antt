-- What reading a matrix pack answers, as seven numbers in a lent list.
use Rattle.std.specs.Prelude.{ℕ, List, [], Result, Ok, Err}
use Rattle.verdict.specs.declared.Stop.{Stop}
use Rattle.verdict.specs.declared.Verdict.{Verdict}
use Rattle.matrix.specs.Listed.{field_numbers}
use Rattle.matrixreader.specs.declared.MatrixRead.{MatrixRead}
use Rattle.matrixreader.specs.Reading.{matrix_read_of}
use Rattle.listing.specs.Listed.{ListedBy}
use Rattle.cmatrix.specs.Format.{told_by, verdict_by}

-- the numbers of an answer; where the pack is not complete there are none
abbrev pub matrix_numbers : Result MatrixRead Stop → List ℕ
matrix_numbers (Ok read) = field_numbers read.fields
matrix_numbers (Err stop) = []

-- seven numbers of a matrix, under a format
abbrev pub FieldsBy : ℕ → List ℕ → List ℕ → Verdict → List ℕ → Type 0
FieldsBy format bytes = ListedBy (verdict_by format bytes) (matrix_numbers (matrix_read_of (told_by format) bytes))
