-- What the bytes of a sparse matrix pack store.
use Rattle.std.specs.Prelude.{ℕ, ◌+◌, ◌*◌, ◌≡◌, List, length}
use Rattle.matrix.specs.declared.Told.{Told}
use Rattle.matrix.specs.Meaning.{Matrix, sum}
use Rattle.matrix.specs.Header.{bits, fields_of, vector_in, words_from}

-- the bytes of a pack that hold the vector
abbrev pub vector_of : Told → List ℕ → List ℕ
vector_of told w = vector_in (fields_of told w) w

-- how many bits of the vector are 1
abbrev pub ones_in : Told → List ℕ → ℕ
ones_in told w = sum (bits (vector_of told w))

-- so many coefficients are stored, and the length is what stands before the words, N deviations, and those coefficients
pub record StoredBy (told : Told) (w : List ℕ) (m : Matrix) : Type 0 where
  pub stored : ones_in told w ≡ sum m.marks
  pub counted : length w ≡ words_from (fields_of told w) + ((fields_of told w).n * (fields_of told w).slen + ones_in told w * (fields_of told w).clen)
