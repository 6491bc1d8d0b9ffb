-- Values of a square by rows: where the cell of a row and a column stands, and which value stands in it. Assumes nothing.
use Prim.Native.Nat.{ℕ, zero, suc, ◌+◌, ◌*◌, ◌/◌, ◌%◌, ◌≤◌, ◌<◌}
use mathlib.Core.Path.{◌≡◌, refl, ◌∙◌, ap, ap₂, sym}
use mathlib.Core.List.{[], ◌∷◌}
use native.Mathlib.Nat.{mul-le-mul, mul-le-mul_right, suc-mul, mul-add-div_right, div-eq_of_lt, mul-add-mod_self_right, mod-eq_of_lt}
use native.Mathlib.Omega.{arith}
use borrow.Author.Tests.{ltb-true, ltb-false}
use lib.Dec.{ltb}
use lib.ListN.{length, get_or, length-append, get_or-append}
use lib.Seq.{get_or_at}
use Rattle.verdict.proofs.Cases.{either}
use Rattle.matrix.specs.Expanded.{listed, square}

-- ---- one cell

pub cell_below : (n i j : ℕ) → i < n → j < n → i * n + j < n * n
cell_below n i j h k = omega (arith, mul-le-mul_right n h, suc-mul i n)

-- of at most 64 rows there are at most 4096 cells
pub cell_small : (n i j : ℕ) → n ≤ 64 → i < n → j < n → i * n + j < 4096
cell_small n i j s h k = omega (arith, cell_below n i j h k, mul-le-mul {n₁ = n} {m₁ = n} {n₂ = 64} {m₂ = 64} s s)

cell_row : (n i j : ℕ) → j < n → (i * n + j) / n ≡ i
cell_row n i j h = mul-add-div_right {m = n} (omega arith) i j ∙ rw (div-eq_of_lt {n = j} {m = n} h) (omega arith)

cell_column : (n i j : ℕ) → j < n → (i * n + j) % n ≡ j
cell_column n i j h = mul-add-mod_self_right i n j ∙ mod-eq_of_lt {n = j} {m = n} h

-- each cell has its own place
pub cell_one : (n i j a b : ℕ) → j < n → b < n → i * n + j ≡ a * n + b → (i ≡ a) × (j ≡ b)
cell_one n i j a b h k e =
    (sym (cell_row n i j h) ∙ ap (λ (p : ℕ). p / n) e ∙ cell_row n a b k, sym (cell_column n i j h) ∙ ap (λ (p : ℕ). p % n) e ∙ cell_column n a b k)

-- ---- all values

pub length_listed : (n : ℕ) (value : ℕ → ℕ) → length (listed n value) ≡ n
unfolding listed
length_listed zero value = refl
length_listed (suc n) value = omega (arith, length-append (listed n value) (value n ∷ []), length_listed n value)

pub listed_at : (n : ℕ) (value : ℕ → ℕ) (k : ℕ) → k < n → get_or (listed n value) k 0 ≡ value k
unfolding listed
listed_at zero value k h = absurd (omega arith)
listed_at (suc n) value k h =
    let l = length_listed n value in
    either (ltb k n) (λ t. get_or-append (listed n value) (value n ∷ []) 0 k (omega (arith, ltb-true k n t)) ∙ listed_at n value k (ltb-true k n t))
    (λ t. let e : n ≡ k = omega (arith, ltb-false k n t) in get_or_at (listed n value) (value n) [] 0 k (omega (arith, ltb-false k n t)) ∙ ap value e)

pub square_at : (n : ℕ) (value : ℕ → ℕ → ℕ) (i j : ℕ) → i < n → j < n → get_or (square n value) (i * n + j) 0 ≡ value i j
square_at n value i j h k = listed_at (n * n) (λ p. value (p / n) (p % n)) (i * n + j) (cell_below n i j h k) ∙ ap₂ value (cell_row n i j k) (cell_column n i j k)
