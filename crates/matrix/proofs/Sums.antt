-- Sums of the first entries of a list. Assumes nothing.
use Prim.Native.Nat.{ℕ, zero, suc, ◌+◌, ◌*◌, ◌≤◌, ◌<◌, min}
use mathlib.Core.Path.{◌≡◌, refl}
use mathlib.Core.List.{List, [], ◌∷◌}
use native.Mathlib.Nat.{mul-zero}
use native.Mathlib.Omega.{arith}
use lib.ListN.{length, take, get_or, replicate}
use Rattle.matrix.specs.Meaning.{sum}
use Rattle.matrix.proofs.BitVector.{sum_same}

pub sum_more : (xs : List ℕ) (i : ℕ) → i < length xs → sum (take (suc i) xs) ≡ sum (take i xs) + get_or xs i 0
unfolding sum
sum_more [] i h = absurd (omega arith)
sum_more (x ∷ xs) zero h = omega arith
sum_more (x ∷ xs) (suc i) h = omega (arith, sum_more xs i (omega arith))

pub sum_first_most : (xs : List ℕ) (i : ℕ) → sum (take i xs) ≤ sum xs
unfolding sum
sum_first_most [] zero = omega arith
sum_first_most [] (suc i) = omega arith
sum_first_most (x ∷ xs) zero = omega arith
sum_first_most (x ∷ xs) (suc i) = omega (arith, sum_first_most xs i)

pub sum_ones : (n i : ℕ) → i ≤ n → sum (take i (replicate n 1)) ≡ i
unfolding sum
sum_ones n zero h = refl
sum_ones zero (suc i) h = absurd (omega arith)
sum_ones (suc n) (suc i) h = omega (arith, sum_ones n i (omega arith))

-- so many words that are all sent or have no bytes
pub sum_full : (number size : ℕ) → sum (replicate number (min 1 size)) * size ≡ number * size
sum_full number zero = omega (arith, mul-zero (sum (replicate number (min 1 0))))
sum_full number (suc size) = let one : min 1 (suc size) ≡ 1 = omega arith in rw (one, sum_same number 1) (omega arith)

-- and of the first of them
pub sum_first_full : (number pair size : ℕ) → pair ≤ number → sum (take pair (replicate number (min 1 size))) * size ≡ pair * size
sum_first_full number pair zero h = omega (arith, mul-zero (sum (take pair (replicate number (min 1 0)))))
sum_first_full number pair (suc size) h = let one : min 1 (suc size) ≡ 1 = omega arith in rw (one, sum_ones number pair h)
