-- The ones of a bit vector, counted byte by byte. Assumes nothing.
use Prim.Native.Nat.{ℕ, zero, suc, ◌+◌, ◌*◌, ◌/◌, ◌%◌, ◌^◌, ◌≤◌, ◌<◌}
use mathlib.Core.Path.{◌≡◌, refl, ◌∙◌}
use mathlib.Core.List.{List, [], ◌∷◌, ◌++◌}
use native.Mathlib.Nat.{pow-suc}
use native.Mathlib.Numerals.{add-one}
use native.Mathlib.Omega.{arith}
use lib.Count.{ones, ones_step, ones_cat}
use lib.ListN.{length, take, drop, get_or, length-take, length-drop}
use lib.Seq.{take-add, take-suc, get_or-drop}
use Rattle.word.specs.Digits.{digits, value_on, value_of}
use Rattle.word.proofs.Digits.{Below, bytes_bits, value_below, value_on_split}
use Rattle.matrix.specs.Meaning.{sum}
use Rattle.matrix.specs.Header.{bits}
use Rattle.matrix.proofs.BitVector.{sum_append, bits_append}
use Rattle.matrix.proofs.Keeping.{sum_bits}

-- the digits that a number has room for hold all its ones
digits_ones : (n b : ℕ) → b < 2 ^ n → sum (digits 2 n b) ≡ ones b
unfolding sum digits ones
digits_ones zero b h = let e : b ≡ 0 = omega arith in rw e
digits_ones (suc n) b h = let half : b / 2 < 2 ^ n = omega (arith, pow-suc 2 n) in omega (arith, sum_append (digits 2 n (b / 2)) (b % 2 ∷ []), digits_ones n (b / 2) half, ones_step b)

bits_most : (v : List ℕ) → sum (bits v) ≤ length v * 8
unfolding sum bits
bits_most [] = omega arith
bits_most (b ∷ v) = omega (arith, sum_append (digits 2 8 b) (bits v), sum_bits 8 b, bits_most v)

pub ones_most : (n : ℕ) (v : List ℕ) → sum (bits (take n v)) ≤ n * 8
ones_most n v = omega (arith, bits_most (take n v), length-take n v)

bits_last : (v : List ℕ) (b : ℕ) → sum (bits (v ++ (b ∷ []))) ≡ sum (bits v) + sum (digits 2 8 b)
unfolding sum bits
bits_last v b = rw (bits_append v (b ∷ []), sum_append (bits v) (digits 2 8 b ++ []), sum_append (digits 2 8 b) []) (omega arith)

-- the ones of one byte more
pub ones_more : (bytes : List ℕ) (place i v : ℕ) → get_or bytes (place + i) 0 < 256 → place + i < length bytes → v ≡ sum (bits (take i (drop place bytes))) → v + ones (get_or bytes (place + i) 0) ≡ sum (bits (take (i + 1) (drop place bytes)))
ones_more bytes place i v small here e =
    let b : get_or (drop place bytes) i 0 ≡ get_or bytes (place + i) 0 = get_or-drop place bytes i 0 in
    rw (add-one, take-suc (drop place bytes) i 0 (rw length-drop (omega arith)), b)
    (omega (arith, bits_last (take i (drop place bytes)) (get_or bytes (place + i) 0), digits_ones 8 (get_or bytes (place + i) 0) small))

-- the ones of bytes are those of the number that they spell
pub ones_value : (v : List ℕ) → Below 256 v → ones (value_of 256 v) ≡ sum (bits v)
unfolding sum bits value_on ones
ones_value [] h = refl
ones_value (b ∷ v) h =
    let e : value_of 256 (b ∷ v) ≡ b * 2 ^ (8 * length v) + value_of 256 v = value_on_split 256 (0 * 256 + b) v ∙ rw (bytes_bits (length v)) (omega arith) in
    rw e
    (ones_cat (8 * length v) b (value_of 256 v) (rw (← bytes_bits (length v)) (value_below 256 v (λ i. h (suc i))))
    ∙ rw (sum_append (digits 2 8 b) (bits v), digits_ones 8 b (h 0), ones_value v (λ i. h (suc i))))

-- those of some bytes and of those behind them
pub ones_both : (i j : ℕ) (v : List ℕ) → sum (bits (take (i + j) v)) ≡ sum (bits (take i v)) + sum (bits (take j (drop i v)))
ones_both i j v = rw (take-add i j v, bits_append (take i v) (take j (drop i v))) (sum_append (bits (take i v)) (bits (take j (drop i v))))
