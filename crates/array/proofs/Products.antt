-- The product of sizes. Assumes nothing.
use Prim.Native.Nat.{ℕ, zero, suc, ◌*◌, ◌≤◌, ◌<◌}
use mathlib.Core.Path.{◌≡◌, ap, sym, ◌∙◌}
use mathlib.Core.List.{List, [], ◌∷◌, ◌++◌}
use native.Mathlib.Nat.{mul_assoc, mul-pos, mul-le-mul_right, le-mul_of_pos_right}
use native.Mathlib.Omega.{arith}
use lib.ListN.{length, get_or}
use Rattle.array.specs.Meaning.{product}

-- one size more multiplies the product
pub product_more : (l : List ℕ) (x : ℕ) → product (l ++ (x ∷ [])) ≡ product l * x
unfolding product
product_more [] x = omega arith
product_more (size ∷ sizes) x = ap (λ (n : ℕ). size * n) (product_more sizes x) ∙ sym (mul_assoc size (product sizes) x)

-- all of these are 1 or more
abbrev pub Positive : List ℕ → Type 0
Positive sizes = (i : ℕ) → i < length sizes → 1 ≤ get_or sizes i 0

pub product_positive : (sizes : List ℕ) → Positive sizes → 1 ≤ product sizes
unfolding product
product_positive [] p = omega arith
product_positive (s ∷ sizes) p = mul-pos (p 0 (omega arith)) (product_positive sizes (λ i l. p (suc i) (omega arith)))

-- none is above the product
pub size_most : (sizes : List ℕ) → Positive sizes → (i : ℕ) → i < length sizes → get_or sizes i 0 ≤ product sizes
unfolding product
size_most [] p i h = absurd (omega arith)
size_most (s ∷ sizes) p zero h = le-mul_of_pos_right {m = product sizes} s (product_positive sizes (λ i l. p (suc i) (omega arith)))
size_most (s ∷ sizes) p (suc i) h = omega (arith, size_most sizes (λ k l. p (suc k) (omega arith)) i (omega arith), mul-le-mul_right (product sizes) (p 0 (omega arith)))
