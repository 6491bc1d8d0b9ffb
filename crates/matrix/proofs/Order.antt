-- Laws of the order of pairs: each stands at its own place. Assumes nothing.
use Prim.Native.Nat.{ℕ, zero, suc, ◌+◌, ◌-◌, ◌<◌}
use mathlib.Core.Path.{◌≡◌, refl, sym, ap, ap₂, ◌∙◌}
use mathlib.Core.List.{◌++◌}
use native.Mathlib.Nat.{mul-le-mul_left}
use native.Mathlib.Omega.{arith}
use lib.ListN.{length, get_or, length-append, get_or-append}
use lib.Seq.{get_or-append-add}
use Rattle.matrix.specs.Meaning.{pairs}
use Rattle.matrix.specs.Order.{Pair, pair, row_from, order_from, order, pair_at}

-- a variable more has a pair with each of the others
pairs_suc : (n : ℕ) → pairs (suc n) ≡ n + pairs n
pairs_suc zero = refl
pairs_suc (suc n) =
    let a : suc (suc n) - 1 ≡ suc n = omega arith in
    let b : suc n - 1 ≡ n = omega arith in
    rw (a, b) (omega arith)

-- behind the first row, the places are those of the other variables
place_suc : (n i j : ℕ) → i < n → pair_at (suc n) (suc i) (suc j) ≡ n + pair_at n i j
place_suc n i j h = omega (arith, mul-le-mul_left i h)

length_row : (i j count : ℕ) → length (row_from i j count) ≡ count
unfolding row_from
length_row i j zero = refl
length_row i j (suc count) = ap suc (length_row i (suc j) count)

row_at : (i j count k : ℕ) → k < count → get_or (row_from i j count) k (pair 0 0) ≡ pair i (j + k)
unfolding row_from
row_at i j zero k h = absurd (omega arith)
row_at i j (suc count) zero h = ap (pair i) (omega arith)
row_at i j (suc count) (suc k) h = row_at i (suc j) count k (omega arith) ∙ ap (pair i) (omega arith)

length_from : (i n : ℕ) → length (order_from i n) ≡ pairs n
unfolding order_from
length_from i zero = refl
length_from i (suc n) = rw (length-append, length_row, length_from (suc i) n) (sym (pairs_suc n))

-- there are as many pairs as coefficients
pub length_order : (n : ℕ) → length (order n) ≡ pairs n
length_order n = length_from 0 n

pub place_below : (n i j : ℕ) → i < j → j < n → pair_at n i j < pairs n
place_below zero i j h l = absurd (omega arith)
place_below (suc n) zero j h l = omega (arith, pairs_suc n)
place_below (suc n) (suc i) zero h l = absurd (omega arith)
place_below (suc n) (suc i) (suc j) h l = omega (arith, pairs_suc n, place_suc n i j (omega arith), place_below n i j (omega arith) (omega arith))

-- in the order from variable b on, b is added to both
stands_from : (b n i j : ℕ) → i < j → j < n → get_or (order_from b n) (pair_at n i j) (pair 0 0) ≡ pair (b + i) (b + j)
unfolding order_from
stands_from b zero i j h l = absurd (omega arith)
stands_from b (suc n) zero j h l =
    let k = pair_at (suc n) 0 j in
    get_or-append (row_from b (suc b) n) (order_from (suc b) n) (pair 0 0) k (omega (arith, length_row b (suc b) n)) ∙ row_at b (suc b) n k (omega arith) ∙ ap₂ pair (omega arith) (omega arith)
stands_from b (suc n) (suc i) zero h l = absurd (omega arith)
stands_from b (suc n) (suc i) (suc j) h l =
    let row = row_from b (suc b) n in
    let e : pair_at (suc n) (suc i) (suc j) ≡ length row + pair_at n i j = omega (arith, place_suc n i j (omega arith), length_row b (suc b) n) in
    ap (λ (k : ℕ). get_or (row ++ order_from (suc b) n) k (pair 0 0)) e
    ∙ get_or-append-add row (order_from (suc b) n) (pair_at n i j) (pair 0 0)
    ∙ stands_from (suc b) n i j (omega arith) (omega arith)
    ∙ ap₂ pair (omega arith) (omega arith)

-- each pair stands at its place
pub pair_stands : (n i j : ℕ) → i < j → j < n → get_or (order n) (pair_at n i j) (pair 0 0) ≡ pair i j
pair_stands n i j h l = stands_from 0 n i j h l ∙ ap₂ pair (omega arith) (omega arith)

-- pairs with the same place are the same
pub place_one : (n i j k l : ℕ) → i < j → j < n → k < l → l < n → pair_at n i j ≡ pair_at n k l → (i ≡ k) × (j ≡ l)
place_one n i j k l a b c d e =
    let same : pair i j ≡ pair k l = sym (pair_stands n i j a b) ∙ ap (λ (p : ℕ). get_or (order n) p (pair 0 0)) e ∙ pair_stands n k l c d in
    (ap (λ (p : Pair). p.row) same, ap (λ (p : Pair). p.column) same)
