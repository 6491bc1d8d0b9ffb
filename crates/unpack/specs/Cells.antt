-- For private functions alone: which cells of an n × n list by rows have been filled.
use Rattle.std.specs.Prelude.{ℕ, ◌+◌, ◌*◌, ◌≤◌, ◌<◌, min, max, ◌≡◌, Bool, true, false, ◌&&◌, List, length, get_or, eqb, ltb}
use Rattle.matrixwalk.specs.declared.Found.{Found}
use Rattle.matrix.specs.Meaning.{Matrix, nought}
use Rattle.matrix.specs.Order.{pair_at}
use Rattle.unpack.specs.declared.cells.Next.{Next}
use Rattle.matrix.specs.Expanded.{cell_word, cell_mark}
use Rattle.unpack.specs.Found.{meaning_found, coefficient_at}

-- these cells have their values, and every other entry is as it was
pub record Cells (n : ℕ) (value : ℕ → ℕ → ℕ) (filled : ℕ → ℕ → Bool) (out₀ out : List ℕ) : Type 0 where
  pub same_length : length out ≡ length out₀
  pub values : (i j : ℕ) → i < n → j < n → filled i j ≡ true → get_or out (i * n + j) 0 ≡ value i j
  pub others : (k : ℕ) → ((i j : ℕ) → i < n → j < n → k ≡ i * n + j → filled i j ≡ false) → get_or out k 0 ≡ get_or out₀ k 0

-- the words and marks of a meaning in these cells
pub record Grid (m : Matrix) (filled : ℕ → ℕ → Bool) (words₀ marks₀ words marks : List ℕ) : Type 0 where
  pub words_filled : Cells m.fields.n (cell_word m) filled words₀ words
  pub marks_filled : Cells m.fields.n (cell_mark m) filled marks₀ marks

-- the first so many of the diagonal
abbrev pub diagonal : ℕ → ℕ → ℕ → Bool
diagonal count i j = eqb i j && ltb i count

-- both places of the pairs of a row, up to a column
abbrev pub of_row : ℕ → ℕ → ℕ → ℕ → Bool
of_row row column i j = eqb (min i j) row && (ltb row (max i j) && ltb (max i j) column)

-- and of the pairs of the first so many rows
abbrev pub of_rows : ℕ → ℕ → ℕ → Bool
of_rows count i j = ltb (min i j) count && ltb (min i j) (max i j)

-- the next coefficient is that of the pair at a row and a column
pub record At (m : Matrix) (found : Found) (row column : ℕ) (next : Next) : Type 0 where
  pub pair : next.pair ≡ pair_at m.fields.n row column
  pub place : next.place ≡ coefficient_at m found (pair_at m.fields.n row column)

-- n × n entries have room
pub record Room (m : Matrix) (words marks : List ℕ) : Type 0 where
  pub for_words : m.fields.n * m.fields.n ≤ length words
  pub for_marks : m.fields.n * m.fields.n ≤ length marks

-- before a row, whose first coefficient is the next
pub record RowFrom (bytes : List ℕ) (found : Found) (none row : ℕ) (next : Next) (words marks : List ℕ) : Type 0 where
  pub nought_is : none ≡ nought (meaning_found bytes found).fields
  pub within : row < (meaning_found bytes found).fields.n
  pub at : At (meaning_found bytes found) found row (row + 1) next
  pub room : Room (meaning_found bytes found) words marks

-- before the rows of a full matrix, whose coefficients have so many bytes each
pub record FullFrom (bytes : List ℕ) (found : Found) (each : ℕ) (words : List ℕ) : Type 0 where
  pub full : found.fields.cs ≡ false
  pub length_is : each ≡ found.fields.clen
  pub room : found.fields.n * found.fields.n ≤ length words

-- before one of them, whose first coefficient stands at a place
pub record FullRowFrom (bytes : List ℕ) (found : Found) (each row place : ℕ) (words : List ℕ) : Type 0 where
  pub from : FullFrom bytes found each words
  pub within : row < found.fields.n
  pub at : place ≡ coefficient_at (meaning_found bytes found) found (pair_at found.fields.n row (row + 1))
