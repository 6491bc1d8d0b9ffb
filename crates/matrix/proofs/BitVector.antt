-- The bit vector: marks packed eight to a byte, and the bits of bytes. Assumes nothing.
use Prim.Native.Nat.{ℕ, zero, suc, ◌+◌, ◌-◌, ◌*◌, ◌/◌, ◌%◌, ◌^◌, ◌≤◌, ◌<◌, min}
use mathlib.Core.Path.{◌≡◌, refl, sym, ap, ap₂, ◌∙◌, subst}
use mathlib.Core.Bool.{false}
use mathlib.Core.List.{List, [], ◌∷◌, ◌++◌, append_assoc, append-nil}
use native.Mathlib.Nat.{add-zero, add-suc, zero-mul, suc-mul, pow-zero, pow-succ', div-one, mod-one, div-div-eq-div-mul}
use native.Mathlib.Numerals.{add-one}
use native.Mathlib.Omega.{arith}
use lib.ListN.{length, take, drop, get_or, replicate, length-append, length-take, length-replicate, get_or-append, get_or-eq_default, take-append-drop, replicate-append-replicate, get_or-replicate}
use lib.Seq.{ext_get_or, get_or-take, get_or-drop, get_or-append-add, length-take-le, take_at, drop_at, take_all, take-suc}
use borrow.Author.Tests.{ltb-true, ltb-false}
use lib.Dec.{ltb}
use lib.Pow.{mod-pow-add}
use Rattle.verdict.proofs.Cases.{either}
use Rattle.word.specs.Digits.{digits, value_on, value_of}
use Rattle.word.proofs.Digits.{Below, below_append, below_take, below_drop, length_digits, digits_below, digits_value, value_digits, value_below, value_snoc, value_zeros}
use Rattle.matrix.specs.Meaning.{pairs, sum, Matrix, LawfulValues}
use Rattle.matrix.specs.Spelling.{packed}
use Rattle.matrix.specs.Header.{bits}

-- zeros behind a list are as good as none
pub get_D_zeros : (xs : List ℕ) (n i : ℕ) → get_or (xs ++ replicate n 0) i 0 ≡ get_or xs i 0
get_D_zeros [] zero i = refl
get_D_zeros [] (suc n) zero = refl
get_D_zeros [] (suc n) (suc i) = get_D_zeros [] n i
get_D_zeros (x ∷ xs) n zero = refl
get_D_zeros (x ∷ xs) n (suc i) = get_D_zeros xs n i

-- the eight bits of a byte, zero-filled
abbrev eight : List ℕ → List ℕ
eight marks = take 8 (marks ++ replicate 8 0)

length_eight : (marks : List ℕ) → length (eight marks) ≡ 8
length_eight marks = length-take-le 8 (marks ++ replicate 8 0) (omega (arith, length-append marks (replicate 8 0)))

eight_at : (marks : List ℕ) (i : ℕ) → i < 8 → get_or (eight marks) i 0 ≡ get_or marks i 0
eight_at marks i h = get_or-take 8 (marks ++ replicate 8 0) i 0 h ∙ get_D_zeros marks 8 i

eight_bits : (marks : List ℕ) → Below 2 marks → Below 2 (eight marks)
eight_bits marks h = below_take 8 (marks ++ replicate 8 0) (below_append marks (replicate 8 0) h (λ i. rw (get_D_zeros [] 8 i) (omega arith)))

pub length_bits : (v : List ℕ) → length (bits v) ≡ length v * 8
unfolding bits
length_bits [] = refl
length_bits (b ∷ v) = omega (arith, length-append (digits 2 8 b) (bits v), length_digits 2 8 b, length_bits v)

pub bits_below : (v : List ℕ) → Below 2 (bits v)
unfolding bits
bits_below [] = λ i. omega arith
bits_below (b ∷ v) = below_append (digits 2 8 b) (bits v) (digits_below 2 8 b (omega arith)) (bits_below v)

pub length_packed : (k : ℕ) (marks : List ℕ) → length (packed k marks) ≡ k
unfolding packed
length_packed zero marks = refl
length_packed (suc k) marks = ap suc (length_packed k (drop 8 marks))

-- a packed byte holds its eight marks
byte_bits : (marks : List ℕ) → Below 2 marks → digits 2 8 (value_of 2 (eight marks)) ≡ eight marks
byte_bits marks h = subst (λ (n : ℕ). digits 2 n (value_of 2 (eight marks)) ≡ eight marks) (length_eight marks) (digits_value 2 (eight marks) (eight_bits marks h))

-- each packed bit is its mark, and 0 where there are no more
packed_at : (k : ℕ) (marks : List ℕ) (i : ℕ) → Below 2 marks → i < k * 8 → get_or (bits (packed k marks)) i 0 ≡ get_or marks i 0
unfolding bits packed
packed_at zero marks i h l = absurd (omega arith)
packed_at (suc k) marks i h l =
    rw (byte_bits marks h)
    (either (ltb i 8)
    (λ t. let e = ltb-true i 8 t in get_or-append (eight marks) (bits (packed k (drop 8 marks))) 0 i (omega (arith, length_eight marks)) ∙ eight_at marks i e)
    (λ t. let e : i ≡ length (eight marks) + (i - 8) = omega (arith, length_eight marks, ltb-false i 8 t) in
    ap (λ (j : ℕ). get_or (eight marks ++ bits (packed k (drop 8 marks))) j 0) e
    ∙ get_or-append-add (eight marks) (bits (packed k (drop 8 marks))) (i - 8) 0
    ∙ packed_at k (drop 8 marks) (i - 8) (below_drop 8 marks h) (omega (arith, ltb-false i 8 t))
    ∙ get_or-drop 8 marks (i - 8) 0
    ∙ ap (λ (j : ℕ). get_or marks j 0) (omega (arith, ltb-false i 8 t))))

-- the marks are read back
pub marks_back : (k : ℕ) (marks : List ℕ) → Below 2 marks → length marks ≤ k * 8 → take (length marks) (bits (packed k marks)) ≡ marks
marks_back k marks h l =
    let n : length (take (length marks) (bits (packed k marks))) ≡ length marks =
    length-take-le (length marks) (bits (packed k marks)) (omega (arith, length_bits (packed k marks), length_packed k marks)) in
    ext_get_or 0 (take (length marks) (bits (packed k marks))) marks n
    (λ i j. get_or-take (length marks) (bits (packed k marks)) i 0 (omega arith) ∙ packed_at k marks i h (omega arith))

-- bits are packed by what stands at each place
packed_same : (k : ℕ) (a b : List ℕ) → ((i : ℕ) → i < k * 8 → get_or a i 0 ≡ get_or b i 0) → packed k a ≡ packed k b
unfolding packed
packed_same zero a b h = refl
packed_same (suc k) a b h =
    ap₂ (λ (x : ℕ) (y : List ℕ). x ∷ y)
    (ap (value_of 2) (ext_get_or 0 (eight a) (eight b) (length_eight a ∙ sym (length_eight b)) (λ i l. let j : i < 8 = omega (arith, length_eight a) in eight_at a i j ∙ h i (omega arith) ∙ sym (eight_at b i j))))
    (packed_same k (drop 8 a) (drop 8 b) (λ i l. get_or-drop 8 a i 0 ∙ h (8 + i) (omega arith) ∙ sym (get_or-drop 8 b i 0)))

-- the bits of bytes are packed back
packed_bits : (v : List ℕ) → Below 256 v → packed (length v) (bits v) ≡ v
unfolding packed bits
packed_bits [] h = refl
packed_bits (b ∷ v) h =
    let e : eight (digits 2 8 b ++ bits v) ≡ digits 2 8 b = ap (take 8) (append_assoc (digits 2 8 b) (bits v) (replicate 8 0)) ∙ take_at (digits 2 8 b) (bits v ++ replicate 8 0) 8 (length_digits 2 8 b) in
    ap₂ (λ (x : ℕ) (y : List ℕ). x ∷ y) (ap (value_of 2) e ∙ value_digits 2 8 b (omega arith) (h 0)) (ap (packed (length v)) (drop_at (digits 2 8 b) (bits v) 8 (length_digits 2 8 b)) ∙ packed_bits v (λ i. h (suc i)))

-- bytes are packed back from their first bits, where the others are 0
pub packed_back : (n : ℕ) (v : List ℕ) → Below 256 v → ((i : ℕ) → n ≤ i → get_or (bits v) i 0 ≡ 0) → packed (length v) (take n (bits v)) ≡ v
packed_back n v h z =
    packed_same (length v) (take n (bits v)) (bits v)
    (λ i l. either (ltb i n) (λ t. get_or-take n (bits v) i 0 (ltb-true i n t))
    (λ t. get_or-eq_default (take n (bits v)) 0 (omega (arith, length-take n (bits v), ltb-false i n t)) ∙ sym (z i (ltb-false i n t))))
    ∙ packed_bits v h

-- ---- how many ones there are

pub sum_append : (xs ys : List ℕ) → sum (xs ++ ys) ≡ sum xs + sum ys
unfolding sum
sum_append [] ys = omega arith
sum_append (x ∷ xs) ys = omega (arith, sum_append xs ys)

sum_zeros : (xs : List ℕ) → ((i : ℕ) → get_or xs i 0 ≡ 0) → sum xs ≡ 0
unfolding sum
sum_zeros [] z = refl
sum_zeros (x ∷ xs) z = omega (arith, z 0, sum_zeros xs (λ i. z (suc i)))

pub sum_same : (n k : ℕ) → sum (replicate n k) ≡ n * k
unfolding sum
sum_same zero k = sym (zero-mul k)
sum_same (suc n) k = omega (arith, sum_same n k, suc-mul n k)

pub sum_first : (n : ℕ) (xs : List ℕ) → ((i : ℕ) → n ≤ i → get_or xs i 0 ≡ 0) → sum (take n xs) ≡ sum xs
sum_first n xs z =
    omega (arith, ap sum (sym (take-append-drop n xs)), sum_append (take n xs) (drop n xs), sum_zeros (drop n xs) (λ i. get_or-drop n xs i 0 ∙ z (n + i) (omega arith)))

-- ---- the unused bits of the last byte

-- digits, the last ones by themselves
digits_append : (b n m v : ℕ) → digits b (n + m) v ≡ digits b n (v / b ^ m) ++ digits b m v
unfolding digits
digits_append b n zero v = rw (add-zero n, pow-zero b, div-one v) (sym (append-nil (digits b n v)))
digits_append b n (suc m) v =
    rw (add-suc n m, digits_append b n m (v / b), div-div-eq-div-mul v b (b ^ m), ← pow-succ' b m) (append_assoc (digits b n (v / b ^ suc m)) (digits b m (v / b)) (v % b ∷ []))

-- the last bits of a number spell what it leaves over their power
bits_value : (n v : ℕ) → value_of 2 (digits 2 n v) ≡ v % 2 ^ n
unfolding digits value_on
bits_value zero v = sym (mod-one v)
bits_value (suc n) v = value_snoc 2 0 (digits 2 n (v / 2)) (v % 2) ∙ rw (bits_value n (v / 2)) (sym (rw (add-one n) at (mod-pow-add v n 1)))

bits_none : (n : ℕ) → digits 2 n 0 ≡ replicate n 0
unfolding digits
bits_none zero = refl
bits_none (suc n) = rw (bits_none n) (replicate-append-replicate n 1 0 ∙ ap (λ (k : ℕ). replicate k 0) (add-one n))

-- a number's last bits are 0 where their power divides it
bits_zero : (n v : ℕ) → v % 2 ^ n ≡ 0 → digits 2 n v ≡ replicate n 0
bits_zero n v z =
    sym (subst (λ (k : ℕ). digits 2 k (value_of 2 (digits 2 n v)) ≡ digits 2 n v) (length_digits 2 n v) (digits_value 2 (digits 2 n v) (digits_below 2 n v (omega arith)))) ∙ rw (bits_value n v, z) (bits_none n)

pub bits_append : (xs ys : List ℕ) → bits (xs ++ ys) ≡ bits xs ++ bits ys
unfolding bits
bits_append [] ys = refl
bits_append (x ∷ xs) ys = ap (λ (l : List ℕ). digits 2 8 x ++ l) (bits_append xs ys) ∙ sym (append_assoc (digits 2 8 x) (bits xs) (bits ys))

-- the bits of bytes, the last unused ones by themselves
module _ (v : List ℕ) (b u : ℕ) (h : u ≤ 8) where
  last_bits : bits (v ++ (b ∷ [])) ≡ (bits v ++ digits 2 (8 - u) (b / 2 ^ u)) ++ digits 2 u b
  unfolding bits
  last_bits =
      let e : 8 ≡ 8 - u + u = omega arith in
      bits_append v (b ∷ []) ∙ ap (λ (l : List ℕ). bits v ++ l) (append-nil (digits 2 8 b) ∙ ap (λ (k : ℕ). digits 2 k b) e ∙ digits_append 2 (8 - u) u b)
      ∙ sym (append_assoc (bits v) (digits 2 (8 - u) (b / 2 ^ u)) (digits 2 u b))

  last_count : length (bits v ++ digits 2 (8 - u) (b / 2 ^ u)) ≡ suc (length v) * 8 - u
  last_count = omega (arith, length-append (bits v) (digits 2 (8 - u) (b / 2 ^ u)), length_bits v, length_digits 2 (8 - u) (b / 2 ^ u))

  unused_zero : b % 2 ^ u ≡ 0 → (i : ℕ) → suc (length v) * 8 - u ≤ i → get_or (bits (v ++ (b ∷ []))) i 0 ≡ 0
  unused_zero z i l =
      let p = bits v ++ digits 2 (8 - u) (b / 2 ^ u) in
      let e : i ≡ length p + (i - length p) = omega (arith, last_count) in
      rw (last_bits, bits_zero u b z) (ap (λ (j : ℕ). get_or (p ++ replicate u 0) j 0) e ∙ get_or-append-add p (replicate u 0) (i - length p) 0 ∙ get_D_zeros [] u (i - length p))

  zero_unused : ((i : ℕ) → suc (length v) * 8 - u ≤ i → get_or (bits (v ++ (b ∷ []))) i 0 ≡ 0) → b % 2 ^ u ≡ 0
  zero_unused z =
      let p = bits v ++ digits 2 (8 - u) (b / 2 ^ u) in
      let e : digits 2 u b ≡ replicate u 0 =
      ext_get_or 0 (digits 2 u b) (replicate u 0) (length_digits 2 u b ∙ sym (length-replicate u 0))
      (λ i l. sym (get_or-append-add p (digits 2 u b) i 0) ∙ (rw last_bits at (z (length p + i) (omega (arith, last_count)))) ∙ sym (get_D_zeros [] u i)) in
      sym (bits_value u b) ∙ ap (value_of 2) e ∙ value_zeros 2 0 u ∙ zero-mul (2 ^ u)

-- the bits behind the first n are 0 exactly where the last byte says so
module _ (x : List ℕ) (k n : ℕ) (c : length x ≡ suc k) (h : n ≤ suc k * 8) (l : k * 8 ≤ n) where
  parted : x ≡ take k x ++ (get_or x k 0 ∷ [])
  parted = sym (take_all (suc k) x (omega arith)) ∙ take-suc x k 0 (omega arith)

  place : suc (length (take k x)) * 8 - (suc k * 8 - n) ≡ n
  place = omega (arith, length-take-le k x (omega arith))

  pub unused_none : get_or x k 0 % 2 ^ (suc k * 8 - n) ≡ 0 → (i : ℕ) → n ≤ i → get_or (bits x) i 0 ≡ 0
  unused_none z i j =
      subst (λ (y : List ℕ). get_or (bits y) i 0 ≡ 0) (sym parted) (unused_zero (take k x) (get_or x k 0) (suc k * 8 - n) (omega arith) z i (omega (arith, place)))

  pub none_unused : ((i : ℕ) → n ≤ i → get_or (bits x) i 0 ≡ 0) → get_or x k 0 % 2 ^ (suc k * 8 - n) ≡ 0
  none_unused z =
      zero_unused (take k x) (get_or x k 0) (suc k * 8 - n) (omega arith) (λ i j. subst (λ (y : List ℕ). get_or (bits y) i 0 ≡ 0) parted (z i (omega (arith, place))))

-- ---- what is packed

pub packed_below : (k : ℕ) (marks : List ℕ) → Below 2 marks → Below 256 (packed k marks)
unfolding packed
packed_below zero marks h i = omega arith
packed_below (suc k) marks h zero = subst (λ (n : ℕ). value_of 2 (eight marks) < 2 ^ n) (length_eight marks) (value_below 2 (eight marks) (eight_bits marks h))
packed_below (suc k) marks h (suc i) = packed_below k (drop 8 marks) (below_drop 8 marks h) i

pub packed_rest : (k : ℕ) (marks : List ℕ) → Below 2 marks → (i : ℕ) → length marks ≤ i → get_or (bits (packed k marks)) i 0 ≡ 0
packed_rest k marks h i l =
    either (ltb i (k * 8)) (λ t. packed_at k marks i h (ltb-true i (k * 8) t) ∙ get_or-eq_default marks 0 l)
    (λ t. get_or-eq_default (bits (packed k marks)) 0 (omega (arith, length_bits (packed k marks), length_packed k marks, ltb-false i (k * 8) t)))

pub packed_sum : (k : ℕ) (marks : List ℕ) → Below 2 marks → length marks ≤ k * 8 → sum (bits (packed k marks)) ≡ sum marks
packed_sum k marks h l = sym (sum_first (length marks) (bits (packed k marks)) (packed_rest k marks h)) ∙ ap sum (marks_back k marks h l)

-- all marks of a lawful meaning are alike unless sparse
pub marks_alike : (m : Matrix) → LawfulValues m → m.fields.cs ≡ false → m.marks ≡ replicate (pairs m.fields.n) (min 1 m.fields.clen)
marks_alike m g e =
    let count = pairs m.fields.n in
    let mark = min 1 m.fields.clen in
    ext_get_or 0 m.marks (replicate count mark) (g.mark_count ∙ sym (length-replicate count mark))
    (λ i h. let l = subst (λ (k : ℕ). i < k) g.mark_count h in g.all_sent e i l ∙ sym (get_or-replicate count i mark 0 l))
