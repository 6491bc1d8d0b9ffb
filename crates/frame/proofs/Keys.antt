-- A key is told by its two words of eight bytes, and by its bytes. Assumes nothing.
use Prim.Native.Nat.{ℕ, ◌≤◌, ◌<◌, ◌^◌}
use mathlib.Core.Path.{◌≡◌, refl, sym, ap, ap₂, ◌∙◌}
use mathlib.Core.Bool.{Bool, true, false, ◌&&◌, cond, false≢true, and-eq-true_iff}
use mathlib.Core.List.{List, [], ◌∷◌, ◌++◌}
use native.Mathlib.Omega.{arith}
use borrow.Author.Tests.{eq-eqb, eqb-true}
use lib.Dec.{eqb}
use Rattle.std.specs.Str.{bytes_eq}
use lib.ListN.{length, take, drop, length-drop}
use lib.Seq.{take-add, take_at, drop_at, length-take-le}
use Rattle.verdict.proofs.Cases.{either}
use Rattle.word.specs.Digits.{digits, value_of}
use Rattle.word.specs.Bytes.{word_at}
use Rattle.word.proofs.Digits.{Below, below_take, below_drop, length_digits, digits_value, value_digits, word_below}
use Rattle.outcome.specs.declared.Kind.{Kind}
use Rattle.outcome.specs.declared.Kind.TheVariants.{Matrix, Array, Unknown}
use Rattle.frame.specs.Frame.{same, kind_of}

same_self : (xs : List ℕ) → same xs xs ≡ true
unfolding same
same_self [] = refl
same_self (x ∷ xs) = rw (eq-eqb x x refl) (same_self xs)

pub same_equal : (xs ys : List ℕ) → same xs ys ≡ true → xs ≡ ys
unfolding same
same_equal [] [] h = refl
same_equal [] (y ∷ ys) h = cc
same_equal (x ∷ xs) [] h = cc
same_equal (x ∷ xs) (y ∷ ys) h =
    let both = (and-eq-true_iff (eqb x y) (same xs ys)).0 h in
    ap₂ (λ (z : ℕ) (zs : List ℕ). z ∷ zs) (eqb-true x y both.0) (same_equal xs ys both.1)

same_not : (xs ys : List ℕ) → (xs ≡ ys → ⊥) → same xs ys ≡ false
same_not xs ys h = either (same xs ys) (λ e. absurd (h (same_equal xs ys e))) (λ e. e)

-- the sixteen bytes of two words
abbrev two_words : ℕ → ℕ → List ℕ
two_words first last = digits 256 8 first ++ digits 256 8 last

key_first : (first last : ℕ) → first < 256 ^ 8 → value_of 256 (take 8 (two_words first last)) ≡ first
key_first first last h = rw (take_at (digits 256 8 first) (digits 256 8 last) 8 (length_digits 256 8 first)) (value_digits 256 8 first (omega arith) h)

key_last : (first last : ℕ) → last < 256 ^ 8 → value_of 256 (drop 8 (two_words first last)) ≡ last
key_last first last h = rw (drop_at (digits 256 8 first) (digits 256 8 last) 8 (length_digits 256 8 first)) (value_digits 256 8 last (omega arith) h)

-- two keys are the same where both words are
same_keys : (a b first last : ℕ) → a < 256 ^ 8 → b < 256 ^ 8 → first < 256 ^ 8 → last < 256 ^ 8 → same (two_words a b) (two_words first last) ≡ eqb a first && eqb b last
same_keys a b first last ha hb hf hl =
    either (eqb a first && eqb b last)
    (λ e.
    let both = (and-eq-true_iff (eqb a first) (eqb b last)).0 e in
    ap₂ (λ (x y : ℕ). same (two_words x y) (two_words first last)) (eqb-true a first both.0) (eqb-true b last both.1) ∙ same_self (two_words first last) ∙ sym e)
    (λ e. same_not (two_words a b) (two_words first last) (λ k. false≢true (sym e ∙ (and-eq-true_iff (eqb a first) (eqb b last)).1 (equal k))) ∙ sym e)
  where
    equal : two_words a b ≡ two_words first last → (eqb a first ≡ true) × (eqb b last ≡ true)
    equal k = (
      eq-eqb a first (sym (key_first a b ha) ∙ ap (λ (key : List ℕ). value_of 256 (take 8 key)) k ∙ key_first first last hf),
      eq-eqb b last (sym (key_last a b hb) ∙ ap (λ (key : List ℕ). value_of 256 (drop 8 key)) k ∙ key_last first last hl),
    )

-- the kind by the words of the key
abbrev pub kind_by : ℕ → ℕ → Kind
kind_by first last =
    cond (eqb first 0x060E2B3402050101 && eqb last 0x0E01030321000000) Matrix
    (cond (eqb first 0x060E2B3402050101 && eqb last 0x0E01030306000000) Array Unknown)

module _ (bytes : List ℕ) (below : Below 256 bytes) (there : 16 ≤ length bytes) where
  -- sixteen bytes are those of their words
  bytes_words : take 16 bytes ≡ two_words (word_at bytes 0 8) (word_at bytes 8 8)
  bytes_words =
      take-add 8 8 bytes
      ∙ ap₂ (λ (xs ys : List ℕ). xs ++ ys)
      (sym (digits_value 256 (take 8 bytes) (below_take 8 bytes below)) ∙ ap (λ (n : ℕ). digits 256 n (word_at bytes 0 8)) (length-take-le 8 bytes (omega arith)))
      (sym (digits_value 256 (take 8 (drop 8 bytes)) (below_take 8 (drop 8 bytes) (below_drop 8 bytes below))) ∙ ap (λ (n : ℕ). digits 256 n (word_at bytes 8 8)) (length-take-le 8 (drop 8 bytes) (rw length-drop (omega arith))))

  same_words : (first last : ℕ) → first < 256 ^ 8 → last < 256 ^ 8 → same (take 16 bytes) (two_words first last) ≡ eqb (word_at bytes 0 8) first && eqb (word_at bytes 8 8) last
  same_words first last f l = rw bytes_words (same_keys (word_at bytes 0 8) (word_at bytes 8 8) first last (word_below bytes 0 8 below) (word_below bytes 8 8 below) f l)

  pub kind_words : kind_of (take 16 bytes) ≡ kind_by (word_at bytes 0 8) (word_at bytes 8 8)
  unfolding digits
  kind_words =
      ap₂ (λ (matrix array : Bool). cond matrix Matrix (cond array Array Unknown))
      (same_words 0x060E2B3402050101 0x0E01030321000000 (omega arith) (omega arith))
      (same_words 0x060E2B3402050101 0x0E01030306000000 (omega arith) (omega arith))

-- as the library compares them
pub same_bytes : (xs ys : List ℕ) → same xs ys ≡ bytes_eq xs ys
unfolding same
same_bytes [] [] = refl
same_bytes [] (y ∷ ys) = refl
same_bytes (x ∷ xs) [] = refl
same_bytes (x ∷ xs) (y ∷ ys) = rw (same_bytes xs ys)
