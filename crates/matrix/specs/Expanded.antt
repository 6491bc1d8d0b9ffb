-- The expanded matrix: the word and the mark at each row and column, on the meaning.
use Rattle.std.specs.Prelude.{ℕ, zero, suc, ◌*◌, ◌/◌, ◌%◌, min, max, cond, List, [], ◌∷◌, ◌++◌, get_or, eqb}
use Rattle.matrix.specs.Meaning.{Matrix}
use Rattle.matrix.specs.Order.{pair_at}

-- so many values by their place
unfoldable pub listed : ℕ → (ℕ → ℕ) → List ℕ
listed zero value = []
listed (suc n) value = listed n value ++ (value n ∷ [])

-- the place of the pair of two variables, in either order
abbrev pub pair_of : ℕ → ℕ → ℕ → ℕ
pair_of n i j = pair_at n (min i j) (max i j)

-- the word at (i, j): a deviation on the diagonal, else the coefficient of the pair
abbrev pub cell_word : Matrix → ℕ → ℕ → ℕ
cell_word m i j = cond (eqb i j) (get_or m.deviations i 0) (get_or m.coefficients (pair_of m.fields.n i j) 0)

-- its mark: on the diagonal 1, or 0 if deviations have no bytes
abbrev pub cell_mark : Matrix → ℕ → ℕ → ℕ
cell_mark m i j = cond (eqb i j) (min 1 m.fields.slen) (get_or m.marks (pair_of m.fields.n i j) 0)

-- n × n values by rows
abbrev pub square : ℕ → (ℕ → ℕ → ℕ) → List ℕ
square n value = listed (n * n) (λ k. value (k / n) (k % n))

abbrev pub expanded_words : Matrix → List ℕ
expanded_words m = square m.fields.n (cell_word m)

abbrev pub expanded_marks : Matrix → List ℕ
expanded_marks m = square m.fields.n (cell_mark m)
