-- What reading a matrix pack states in document 01's terms.
use Rattle.std.specs.Prelude.{[], ◌∷◌, ◌++◌, Result, Ok, Err}
use Rattle.verdict.specs.declared.Stop.{Stop}
use Rattle.verdict.specs.Stated.{Stated, gives, stated_stop}
use Rattle.matrix.specs.Listed.{field_numbers}
use Rattle.matrixreader.specs.declared.MatrixRead.{MatrixRead}

-- N, the five control fields and the mode, with the length
abbrev pub stated_matrix_read : Result MatrixRead Stop → Stated
stated_matrix_read (Ok read) = gives (field_numbers read.fields ++ (read.length ∷ []))
stated_matrix_read (Err stop) = stated_stop stop
