-- The order of pairs: the upper triangle by rows.
use Rattle.std.specs.Prelude.{ℕ, zero, suc, ◌+◌, ◌-◌, ◌*◌, ◌/◌, List, [], ◌∷◌, ◌++◌}

-- two variables, by their row and column
pub record Pair : Type 0 where
  pub row : ℕ
  pub column : ℕ

abbrev pub pair : ℕ → ℕ → Pair
pair i j = record { row = i; column = j }

-- so many pairs of row i, from column j on: (i,j), (i,j+1) ..
unfoldable pub row_from : ℕ → ℕ → ℕ → List Pair
row_from i j zero = []
row_from i j (suc count) = pair i j ∷ row_from i (suc j) count

-- the pairs of so many variables, the first of which is i: those of row i, (i,i+1), (i,i+2) .., and then those of the variables behind it
unfoldable pub order_from : ℕ → ℕ → List Pair
order_from i zero = []
order_from i (suc count) = row_from i (suc i) count ++ order_from (suc i) count

-- the pairs of n variables: (0,1), (0,2) .. (0,n−1), (1,2) ..
abbrev pub order : ℕ → List Pair
order n = order_from 0 n

-- the place of the pair (i,j) among the pairs of n variables
abbrev pub pair_at : ℕ → ℕ → ℕ → ℕ
pair_at n i j = i * n - i * (i + 1) / 2 + (j - i - 1)
