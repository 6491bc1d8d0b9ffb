-- How long an array pack can be. Assumes nothing.
use Prim.Native.Nat.{ℕ, zero, suc, ◌+◌, ◌*◌, ◌/◌, ◌≤◌, ◌<◌}
use mathlib.Core.Path.{◌≡◌, subst}
use mathlib.Core.List.{List, [], ◌∷◌}
use native.Mathlib.Nat.{mul-le-mul_right}
use native.Mathlib.Omega.{arith}
use lib.ListN.{length, get_or, length-append}
use Rattle.number.specs.Octets.{high, octets, numbers}
use Rattle.number.proofs.Counts.{length_octets, length_high, length_high_none}
use Rattle.array.specs.Meaning.{most}
use Rattle.array.specs.Spelling.{bytes_of, ArrayPack}
use Rattle.array.proofs.Products.{product_positive, size_most}

-- the octets before the last: none for 0, one more than a hundred-and-twenty-eighth has
high_short : (v k : ℕ) → length (high (v / 128)) ≤ k → length (high v) ≤ k + 1
high_short zero k h = omega (arith, length_high_none)
high_short (suc v) k h = omega (arith, length_high (suc v) (omega arith))

none_short : (v : ℕ) → v ≡ 0 → length (high v) ≤ 0
none_short v e = rw e (omega (arith, length_high_none))

-- a number of at most 32,768 has at most three octets, one below 128 one
octets_three : (v : ℕ) → v ≤ most → length (octets v) ≤ 3
octets_three v h =
    let one = high_short (v / 128 / 128) 0 (none_short (v / 128 / 128 / 128) (omega arith)) in
    omega (arith, length_octets v, high_short (v / 128) 1 one)

octets_one : (v : ℕ) → v < 128 → length (octets v) ≤ 1
octets_one v h = omega (arith, length_octets v, none_short (v / 128) (omega arith))

numbers_short : (values : List ℕ) → ((i : ℕ) → i < length values → get_or values i 0 ≤ most) → length (numbers values) ≤ length values * 3
unfolding numbers
numbers_short [] h = omega arith
numbers_short (value ∷ values) h =
    omega (arith, length-append (octets value) (numbers values), octets_three value (h 0 (omega arith)), numbers_short values (λ i l. h (suc i) (omega arith)))

-- NDim, eight sizes and E of three octets, processing, and the array
pub array_short : (w : List ℕ) → ArrayPack w → length w ≤ 32797
array_short w p =
    let a = p.meaning in
    let g = p.lawful in
    let sizes = numbers_short a.sizes (λ i l. omega (arith, size_most a.sizes g.size_least i l, g.elements_most)) in
    let times = mul-le-mul_right a.element (product_positive a.sizes g.size_least) in
    let element : a.element ≤ most = omega (arith, times, g.bytes_most) in
    let long : length (bytes_of a) ≤ 32797 =
    simp length-append
    (omega (arith, octets_one (length a.sizes) (omega (arith, g.few_sizes)), sizes, octets_three a.element element, octets_one 1 (omega arith), g.body_count, g.bytes_most, g.few_sizes)) in
    subst (λ (l : List ℕ). length l ≤ 32797) p.spelled long
