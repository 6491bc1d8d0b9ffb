-- Laws of numbers and their digits in any base, and of the words of bytes. Assumes nothing.
use Prim.Native.Nat.{ℕ, zero, suc, ◌+◌, ◌-◌, ◌*◌, ◌/◌, ◌%◌, ◌^◌, ◌≤◌, ◌<◌}
use mathlib.Core.Path.{◌≡◌, refl, ◌∙◌, sym, ap, ap₂}
use mathlib.Core.List.{List, [], ◌∷◌, ◌++◌}
use mathlib.Core.Bool.{Bool, true, false}
use native.Mathlib.Omega.{arith}
use native.Mathlib.Nat.{pow-zero, pow-suc, mod-lt, mod-eq_of_lt, div-add-mod', div-lt_iff_lt-mul, mul-le-mul_right, mul-add-div_right, mul-add-mod_self_right, pow-le-pow_right, lt_of_lt_of_le, div-eq_of_lt, le-div_iff_mul-le, one-mul, one-le-pow, mul-lt-mul_of_pos_right}
use borrow.Author.Tests.{ltb-true, ltb-false, ne_eqb}
use lib.Dec.{eqb, ltb}
use lib.Pow.{pow-add, pow-lt, shl-shr}
use lib.ListN.{length, take, drop, get_or, replicate, length-append, length-take, length-drop}
use lib.Seq.{take-suc, take-add, drop-cons, drop-drop, get_or-drop, length-take-le}
use native.Mathlib.Numerals.{add-one}
use Rattle.word.specs.Digits.{digits, value_on, value_of}
use Rattle.word.specs.Bytes.{word_at}

-- each digit is below the base
abbrev pub Below : ℕ → List ℕ → Type 0
Below b ds = (i : ℕ) → get_or ds i 0 < b

pub below_append : {b : ℕ} (xs ys : List ℕ) → Below b xs → Below b ys → Below b (xs ++ ys)
below_append [] ys f g i = g i
below_append (x ∷ xs) ys f g zero = f 0
below_append (x ∷ xs) ys f g (suc i) = below_append xs ys (λ j. f (suc j)) g i

pub below_take : {b : ℕ} (n : ℕ) (ds : List ℕ) → Below b ds → Below b (take n ds)
below_take zero ds f i = omega (arith, f i)
below_take (suc n) [] f i = f i
below_take (suc n) (d ∷ ds) f zero = f 0
below_take (suc n) (d ∷ ds) f (suc i) = below_take n ds (λ j. f (suc j)) i

pub below_drop : {b : ℕ} (n : ℕ) (ds : List ℕ) → Below b ds → Below b (drop n ds)
below_drop zero ds f = f
below_drop (suc n) [] f = f
below_drop (suc n) (d ∷ ds) f = below_drop n ds (λ j. f (suc j))

pub length_digits : (b n v : ℕ) → length (digits b n v) ≡ n
unfolding digits
length_digits b zero v = refl
length_digits b (suc n) v = rw length-append (omega (arith, length_digits b n (v / b)))

pub below_one : {b d : ℕ} → d < b → Below b (d ∷ [])
below_one h zero = h
below_one h (suc i) = omega arith

pub digits_below : (b n v : ℕ) → 0 < b → Below b (digits b n v)
unfolding digits
digits_below b zero v h = λ i. h
digits_below b (suc n) v h = below_append (digits b n (v / b)) (v % b ∷ []) (digits_below b n (v / b) h) (below_one (mod-lt v h))

pub value_on_append : (b v : ℕ) (xs ys : List ℕ) → value_on b v (xs ++ ys) ≡ value_on b (value_on b v xs) ys
unfolding value_on
value_on_append b v [] ys = refl
value_on_append b v (x ∷ xs) ys = value_on_append b (v * b + x) xs ys

pub value_snoc : (b v : ℕ) (ds : List ℕ) (d : ℕ) → value_on b v (ds ++ (d ∷ [])) ≡ value_on b v ds * b + d
unfolding value_on
value_snoc b v ds d = value_on_append b v ds (d ∷ [])

pub value_on_split : (b v : ℕ) (ds : List ℕ) → value_on b v ds ≡ v * b ^ length ds + value_of b ds
unfolding value_on
value_on_split b v [] = rw pow-zero (omega arith)
value_on_split b v (d ∷ ds) = rw pow-suc (omega (arith, value_on_split b (v * b + d) ds, value_on_split b (0 * b + d) ds))

pub value_zeros : (b v n : ℕ) → value_on b v (replicate n 0) ≡ v * b ^ n
unfolding value_on
value_zeros b v zero = rw pow-zero (omega arith)
value_zeros b v (suc n) = rw pow-suc (omega (arith, value_zeros b (v * b + 0) n))

pub value_below : (b : ℕ) (ds : List ℕ) → Below b ds → value_of b ds < b ^ length ds
unfolding value_on
value_below b [] f = rw pow-zero (omega arith)
value_below b (d ∷ ds) f =
    rw (value_on_split b (0 * b + d) ds, pow-suc) (omega (arith, value_below b ds (λ i. f (suc i)), mul-le-mul_right (b ^ length ds) (f 0)))

pub value_digits : (b n v : ℕ) → 0 < b → v < b ^ n → value_of b (digits b n v) ≡ v
unfolding digits value_on
value_digits b zero v h l = omega (arith, pow-zero b)
value_digits b (suc n) v h l =
    value_snoc b 0 (digits b n (v / b)) (v % b)
    ∙ rw (value_digits b n (v / b) h ((div-lt_iff_lt-mul h).1 (rw pow-suc at l))) (div-add-mod' v b)

-- a digit in front of n others
pub digits_front : (b n d v : ℕ) → d < b → v < b ^ n → digits b (suc n) (d * b ^ n + v) ≡ d ∷ digits b n v
unfolding digits
digits_front b zero d v h l =
    let e : d * b ^ 0 + v ≡ d = rw pow-zero (omega (arith, pow-zero b)) in
    ap (λ (x : ℕ). x % b ∷ []) e ∙ rw (mod-eq_of_lt h)
digits_front b (suc n) d v h l =
    let e : d * b ^ suc n + v ≡ d * b ^ n * b + v = rw pow-suc (omega arith) in
    let p : 0 < b = omega arith in
    ap₂ (λ (x y : ℕ). digits b (suc n) x ++ (y ∷ []))
    (ap (λ (x : ℕ). x / b) e ∙ mul-add-div_right p (d * b ^ n) v)
    (ap (λ (x : ℕ). x % b) e ∙ mul-add-mod_self_right (d * b ^ n) b v)
    ∙ ap (λ (ds : List ℕ). ds ++ (v % b ∷ [])) (digits_front b n d (v / b) h ((div-lt_iff_lt-mul p).1 (rw pow-suc at l)))

pub digits_value : (b : ℕ) (ds : List ℕ) → Below b ds → digits b (length ds) (value_of b ds) ≡ ds
unfolding digits value_on
digits_value b [] f = refl
digits_value b (d ∷ ds) f =
    let g : Below b ds = λ i. f (suc i) in
    let e : value_on b (0 * b + d) ds ≡ d * b ^ length ds + value_of b ds = value_on_split b (0 * b + d) ds ∙ omega arith in
    ap (digits b (suc (length ds))) e ∙ digits_front b (length ds) d (value_of b ds) (f 0) (value_below b ds g) ∙ ap (λ (r : List ℕ). d ∷ r) (digits_value b ds g)

pub digits_take : (b n : ℕ) (ds : List ℕ) → Below b ds → n ≤ length ds → digits b n (value_of b (take n ds)) ≡ take n ds
digits_take b n ds f h = ap (λ (k : ℕ). digits b k (value_of b (take n ds))) (sym (length-take-le n ds h)) ∙ digits_value b (take n ds) (below_take n ds f)

-- one digit more
pub value_more : (b : ℕ) (ds : List ℕ) (i : ℕ) → i < length ds → value_of b (take (suc i) ds) ≡ value_of b (take i ds) * b + get_or ds i 0
value_more b ds i h = rw (take-suc ds i 0 h) (value_snoc b 0 (take i ds) (get_or ds i 0))

pub value_take_below : (b n : ℕ) (ds : List ℕ) → Below b ds → value_of b (take n ds) < b ^ n
value_take_below b n ds f =
    lt_of_lt_of_le (value_below b (take n ds) (below_take n ds f)) (pow-le-pow_right (omega (arith, f 0)) (omega (arith, length-take n ds)))

pub word_below : (s : List ℕ) (place n : ℕ) → Below 256 s → word_at s place n < 256 ^ n
word_below s place n f = value_take_below 256 n (drop place s) (below_drop place s f)

-- a word is its first byte, and the others behind it
pub word_front : (s : List ℕ) (place n : ℕ) → place + suc n ≤ length s → word_at s place (suc n) ≡ get_or s place 0 * 256 ^ n + word_at s (place + 1) n
unfolding value_on
word_front s place n h =
    let l : length (take n (drop (suc place) s)) ≡ n = length-take-le n (drop (suc place) s) (rw length-drop (omega arith)) in
    rw (add-one, drop-cons s place 0 (omega arith)) (value_on_split 256 (0 * 256 + get_or s place 0) (take n (drop (suc place) s)) ∙ rw l (omega arith))

-- digits behind digits, with k zeros behind both
pub value_spread : (b k : ℕ) (xs ys : List ℕ) → value_of b (xs ++ ys) * b ^ k ≡ value_of b xs * b ^ (length ys + k) + value_of b ys * b ^ k
value_spread b k xs ys = rw (value_on_append, value_on_split b (value_of b xs) ys, pow-add) (omega arith)

pub value_spread_below : (b k : ℕ) (ds : List ℕ) → Below b ds → value_of b ds * b ^ k < b ^ (length ds + k)
value_spread_below b k ds f = rw pow-add (mul-lt-mul_of_pos_right (value_below b ds f) (one-le-pow k b (omega (arith, f 0))))

-- a byte is eight bits
pub bytes_bits : (n : ℕ) → 256 ^ n ≡ 2 ^ (8 * n)
bytes_bits zero = refl
bytes_bits (suc n) =
    let e : 8 * suc n ≡ 8 * n + 8 = omega arith in
    pow-suc 256 n ∙ rw (bytes_bits n, e) (sym (pow-add 2 (8 * n) 8))

-- a word is its first bytes, and the others behind them
word_parts : (s : List ℕ) (place a b : ℕ) → a + b ≤ length s - place → word_at s place (a + b) ≡ word_at s place a * 256 ^ b + word_at s (place + a) b
word_parts s place a b h =
    let l : length (take b (drop (place + a) s)) ≡ b = length-take-le b (drop (place + a) s) (rw length-drop (omega arith)) in
    rw (take-add a b (drop place s), drop-drop, value_on_append, value_on_split 256 (word_at s place a) (take b (drop (place + a) s)), l)

-- one byte more, at its weight in a word of n bytes
weight_more : (s : List ℕ) (place n i : ℕ) → i < n → n ≤ length s - place → word_at s place i * 256 ^ (n - i) + get_or s (place + i) 0 * 256 ^ (n - 1 - i) ≡ word_at s place (i + 1) * 256 ^ (n - (i + 1))
weight_more s place n i h k =
    let e : n - i ≡ suc (n - 1 - i) = omega arith in
    let d : n - (i + 1) ≡ n - 1 - i = omega arith in
    let inside : i < length (drop place s) = rw length-drop (omega arith) in
    rw (e, d, add-one, value_more 256 (drop place s) i inside, get_or-drop, pow-suc) (omega arith)

-- a word of at most eight bytes fits in 64 bits
pub word_fits : (s : List ℕ) (place n : ℕ) → Below 256 s → n ≤ 8 → word_at s place n < 2 ^ 64
word_fits s place n f k = lt_of_lt_of_le (word_below s place n f) (pow-le-pow_right {n = 256} (omega arith) {i = n} {j = 8} k)

-- and its first bytes at their weight
pub weight_fits : (s : List ℕ) (place n i : ℕ) → Below 256 s → i ≤ n → n ≤ 8 → word_at s place i * 256 ^ (n - i) < 2 ^ 64
weight_fits s place n i f h k =
    let e : i + (n - i) ≡ n = omega arith in
    lt_of_lt_of_le (mul-lt-mul_of_pos_right (word_below s place i f) (one-le-pow (n - i) 256 (omega arith)))
    (rw (← pow-add, e) (pow-le-pow_right {n = 256} (omega arith) {i = n} {j = 8} k))

-- and a shift by whole bytes is their weight
shifted_weight : (v n : ℕ) → v * 256 ^ n < 2 ^ 64 → v * 2 ^ (8 * n) % 2 ^ 64 ≡ v * 256 ^ n
shifted_weight v n h = rw (← bytes_bits n) (mod-eq_of_lt h)

module _ (s : List ℕ) (place : ℕ) (f : Below 256 s) where
  -- so a byte is shifted behind those before it
  pub shifted_byte : (n i : ℕ) → i < n → n ≤ length s - place → n ≤ 8 → (value : ℕ) → value ≡ word_at s place i * 256 ^ (n - i)
      → value + get_or s (place + i) 0 * 2 ^ (8 * (n - 1 - i)) % 2 ^ 64 ≡ word_at s place (i + 1) * 256 ^ (n - (i + 1))
  shifted_byte n i h k l value e =
      let more = weight_more s place n i h k in
      let fits = weight_fits s place n (i + 1) f (omega arith) l in
      rw (e, shifted_weight (get_or s (place + i) 0) (n - 1 - i) (omega arith)) more

  -- and a part of a word before the rest of it
  pub shifted_part : (a b n x y : ℕ) → a + b ≡ n → n ≤ length s - place → n ≤ 8 → x ≡ word_at s place a → y ≡ word_at s (place + a) b → x * 2 ^ (8 * b) % 2 ^ 64 + y ≡ word_at s place n
  shifted_part a b n x y e h l p q =
      let parts : word_at s place n ≡ word_at s place a * 256 ^ b + word_at s (place + a) b = rw (← e) (word_parts s place a b (omega arith)) in
      let fits = word_fits s place n f l in
      rw (p, q, shifted_weight (word_at s place a) b (omega arith)) (sym parts)

-- a shift leaves nothing of exactly the words that fit
pub shifted_out : (word p : ℕ) → 0 < p → eqb (word / p) 0 ≡ ltb word p
shifted_out word p h = by (ltb word p) refl
  where
    by : (t : Bool) → ltb word p ≡ t → eqb (word / p) 0 ≡ t
    by true e = rw (div-eq_of_lt (ltb-true word p e))
    by false e = ne_eqb (word / p) 0 (λ z. omega (arith, (le-div_iff_mul-le {x = 1} {y = word} h).1 (omega (arith, ltb-false word p e))))

-- all the words of n bytes, over a power of two
pub over_bits : (n k : ℕ) → k ≤ 8 * n → 256 ^ n / 2 ^ k ≡ 2 ^ (8 * n - k)
over_bits n k h =
    let e : 8 * n ≡ 8 * n - k + k = omega arith in
    ap (λ (x : ℕ). x / 2 ^ k) (bytes_bits n ∙ ap (λ (x : ℕ). 2 ^ x) e ∙ pow-add 2 (8 * n - k) k) ∙ shl-shr (2 ^ (8 * n - k)) k

-- the same as a one shifted to its place in 64 bits
pub one_shifted : (n k : ℕ) → 0 < k → k ≤ 8 * n → n ≤ 8 → 1 * 2 ^ (8 * n - k) % 2 ^ 64 ≡ 256 ^ n / 2 ^ k
one_shifted n k p h l = rw one-mul (mod-eq_of_lt (pow-lt {j = 64} (omega arith)) ∙ sym (over_bits n k h))
