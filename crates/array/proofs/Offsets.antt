-- Offsets of elements: below the count of elements, and summed index by index. Assumes nothing.
use Prim.Native.Nat.{ℕ, zero, suc, ◌+◌, ◌*◌, ◌≤◌, ◌<◌}
use mathlib.Core.Path.{◌≡◌, refl, ap, ◌∙◌}
use mathlib.Core.Bool.{true, false, and-false, and-eq-true_iff, false≢true}
use mathlib.Core.List.{List, [], ◌∷◌}
use native.Mathlib.Nat.{mul-le-mul_right, le-mul_of_pos_right, mul_assoc, mul-zero}
use native.Mathlib.Numerals.{add-one}
use native.Mathlib.Omega.{arith}
use borrow.Author.Tests.{ltb-true, lt-ltb, le-ltb}
use lib.ListN.{length, drop, get_or, drop_of_length-le}
use lib.Seq.{drop-cons}
use lib.Dec.{ltb}
use Rattle.array.specs.Meaning.{product}
use Rattle.array.specs.Offsets.{inside, offset}

-- the offset of an element inside is below the count of elements
pub offset_below : (sizes indices : List ℕ) → inside sizes indices ≡ true → offset sizes indices < product sizes
unfolding inside offset product
offset_below [] [] h = omega arith
offset_below [] (x ∷ xs) h = absurd (false≢true h)
offset_below (s ∷ sizes) [] h = absurd (false≢true h)
offset_below (s ∷ sizes) (x ∷ xs) h =
    let b = (and-eq-true_iff (ltb x s) (inside sizes xs)).0 h in
    let l : x + 1 ≤ s = omega (arith, ltb-true x s b.0) in
    omega (arith, mul-le-mul_right (product sizes) l, offset_below sizes xs b.1)

-- another count of indices is not inside
pub count_outside : (sizes indices : List ℕ) → (length indices ≡ length sizes → ⊥) → inside sizes indices ≡ false
unfolding inside
count_outside [] [] d = absurd (d refl)
count_outside [] (x ∷ xs) d = refl
count_outside (s ∷ sizes) [] d = refl
count_outside (s ∷ sizes) (x ∷ xs) d = rw (count_outside sizes xs (λ e. d (ap suc e))) (and-false (ltb x s))

-- behind so many indices, all below their sizes, the sum that an offset has so far; the other sizes have at least one element
pub record Summed (sizes indices : List ℕ) (count sum : ℕ) : Type 0 where
  pub least : 1 ≤ product (drop count sizes)
  pub below : (sum + 1) * product (drop count sizes) ≤ product sizes
  pub summed : offset sizes indices ≡ sum * product (drop count sizes) + offset (drop count sizes) (drop count indices)
  pub left : inside sizes indices ≡ inside (drop count sizes) (drop count indices)

-- a factor of a product of 1 or more is 1 or more
factor_least : (s p : ℕ) → 1 ≤ s * p → 1 ≤ p
factor_least s zero h = absurd (omega (arith, mul-zero s))
factor_least s (suc p) h = omega arith

-- with one index more the sum stays below
below_next : (sum s x p n : ℕ) → x < s → (sum + 1) * (s * p) ≤ n → (sum * s + x + 1) * p ≤ n
below_next sum s x p n l h =
    let j : sum * s + x + 1 ≤ (sum + 1) * s = omega arith in
    omega (arith, mul-le-mul_right p j, mul_assoc (sum + 1) s p)

module _ (sizes indices : List ℕ) where
  pub summed_none : 1 ≤ product sizes → Summed sizes indices 0 0
  summed_none h = record { least = h; below = omega arith; summed = omega arith; left = refl }

  -- what is summed so far is below the count of elements
  pub summed_below : (count sum : ℕ) → Summed sizes indices count sum → sum < product sizes
  summed_below count sum b = omega (arith, le-mul_of_pos_right {m = product (drop count sizes)} (sum + 1) b.least, b.below)

  -- all indices are done
  pub summed_inside : (count sum : ℕ) → Summed sizes indices count sum → length sizes ≤ count → length indices ≤ count → inside sizes indices ≡ true
  unfolding inside
  summed_inside count sum b h k = b.left ∙ rw (drop_of_length-le sizes h, drop_of_length-le indices k)

  pub summed_offset : (count sum : ℕ) → Summed sizes indices count sum → length sizes ≤ count → offset sizes indices ≡ sum
  unfolding offset product
  summed_offset count sum b h = b.summed ∙ rw (drop_of_length-le sizes h) (omega arith)

  module _ (count sum : ℕ) (b : Summed sizes indices count sum) (h : count < length sizes) (k : count < length indices) (size : ℕ) (d : size ≡ get_or sizes count 0) where
    -- the next index is not below its size
    pub summed_outside : size ≤ get_or indices count 0 → inside sizes indices ≡ false
    unfolding inside
    summed_outside l = b.left ∙ rw (drop-cons sizes count 0 h, drop-cons indices count 0 k, ← d, le-ltb (get_or indices count 0) size l)

    -- one index more
    pub summed_next : get_or indices count 0 < size → Summed sizes indices (count + 1) (sum * size + get_or indices count 0)
    unfolding inside offset product
    summed_next l =
        let x = get_or indices count 0 in
        let p = product (drop (suc count) sizes) in
        let o = offset (drop (suc count) sizes) (drop (suc count) indices) in
        let e : product (drop count sizes) ≡ size * p = rw (drop-cons sizes count 0 h, d) in
        let f : offset (drop count sizes) (drop count indices) ≡ x * p + o = rw (drop-cons sizes count 0 h, drop-cons indices count 0 k) in
        rw (add-one count)
        (record {
          least = factor_least size p (rw e at b.least);
          below = below_next sum size x p (product sizes) l (rw e at b.below);
          summed = b.summed ∙ rw (e, f) (omega (arith, mul_assoc sum size p));
          left = b.left ∙ rw (drop-cons sizes count 0 h, drop-cons indices count 0 k, ← d, lt-ltb x size l);
        })
