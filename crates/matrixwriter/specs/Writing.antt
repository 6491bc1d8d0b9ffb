-- The rules of the writer of matrix packs, in document 01's order.
use Rattle.std.specs.Prelude.{Bool, List, ◌++◌, ℕ, length}
use Rattle.verdict.specs.Rows.{Row}
use Rattle.verdict.specs.Writing.{room_rows}
use Rattle.matrix.specs.declared.Fields.{Fields}
use Rattle.matrix.specs.Spelling.{bytes_of}
use Rattle.matrixcheck.specs.Given.{meaning_given, given_rows}

-- the rules of the writer, where Mode 1's deviations are mapped or not: of what is given, and last of the buffer that is lent
abbrev pub writer_rows : Bool → Fields → List ℕ → List ℕ → List ℕ → List ℕ → List Row
writer_rows mapped f deviations coefficients marks out = given_rows mapped f deviations coefficients marks ++ room_rows (length (bytes_of (meaning_given f deviations coefficients marks))) (length out)
