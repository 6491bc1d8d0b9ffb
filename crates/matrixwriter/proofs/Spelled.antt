-- The bytes of marks and words, one more at a time. Assumes nothing.
use Prim.Native.Nat.{ℕ, zero, suc, ◌+◌, ◌*◌, ◌≤◌, ◌<◌, min}
use mathlib.Core.Path.{◌≡◌, refl, sym, ap, ap₂, ◌∙◌}
use mathlib.Core.Bool.{cond}
use mathlib.Core.List.{List, [], ◌∷◌, ◌++◌}
use native.Mathlib.Nat.{one-mul, zero-mul, mul-zero, pow-le-pow_right}
use native.Mathlib.Numerals.{add-one}
use native.Mathlib.Omega.{arith}
use borrow.Author.Tests.{ne_eqb}
use lib.Dec.{eqb}
use lib.ListN.{length, take, drop, get_or, replicate, length-append, length-replicate}
use lib.Seq.{drop-drop, get_or-drop, length-take-le}
use Rattle.word.specs.Digits.{digits, value_of}
use Rattle.word.specs.Many.{bytes_for}
use Rattle.word.proofs.Digits.{value_more, value_take_below}
use Rattle.matrix.specs.declared.Fields.{Fields}
use Rattle.matrix.specs.Spelling.{packed, spelled}
use Rattle.matrixcheck.specs.Given.{sent_words, deviation_marks}
use Rattle.matrixcheck.proofs.Fitting.{all_same}
use Rattle.matrix.proofs.BitVector.{get_D_zeros}

-- ---- words

module _ (size : ℕ) where
  -- a word that is not sent does not matter
  word_sent : (none mark word : ℕ) → digits 256 (mark * size) (cond (eqb mark 0) none word) ≡ digits 256 (mark * size) word
  unfolding digits
  word_sent none zero word = rw (zero-mul size)
  word_sent none (suc mark) word = rw (ne_eqb (suc mark) 0 (λ z. omega arith))

  pub spelled_sent : (none : ℕ) (marks words : List ℕ) → spelled size marks (sent_words none marks words) ≡ spelled size marks words
  unfolding spelled sent_words
  spelled_sent none [] words = refl
  spelled_sent none (mark ∷ marks) words = ap₂ (λ (x y : List ℕ). x ++ y) (word_sent none mark (get_or words 0 0)) (spelled_sent none marks (drop 1 words))

-- words past the marks have no bytes
pub spelled_front : (size : ℕ) (marks words : List ℕ) (n : ℕ) → length marks ≤ n → spelled size marks (take n words) ≡ spelled size marks words
unfolding spelled
spelled_front size [] words n h = refl
spelled_front size (mark ∷ marks) words zero h = absurd (omega arith)
spelled_front size (mark ∷ marks) [] (suc n) h = refl
spelled_front size (mark ∷ marks) (word ∷ words) (suc n) h = ap (λ (bs : List ℕ). digits 256 (mark * size) word ++ bs) (spelled_front size marks words n (omega arith))

-- as bytes of words one after the other
pub all_spelled : (size : ℕ) (words : List ℕ) → bytes_for size words ≡ spelled size (replicate (length words) 1) words
unfolding spelled bytes_for
all_spelled size [] = refl
all_spelled size (word ∷ words) = rw (one-mul size) (ap (λ (bs : List ℕ). digits 256 size word ++ bs) (all_spelled size words))

-- words without bytes
pub spelled_none : (marks words : List ℕ) → spelled 0 marks words ≡ []
unfolding spelled digits
spelled_none [] words = refl
spelled_none (mark ∷ marks) words = rw (mul-zero mark, spelled_none marks (drop 1 words))

-- the first words, as many as there are marks of 1
pub first_spelled : (size n : ℕ) (words : List ℕ) → n ≤ length words → spelled size (replicate (length (take n words)) 1) (take n words) ≡ spelled size (replicate n 1) words
first_spelled size n words enough = rw (length-take-le n words enough) (spelled_front size (replicate n 1) words n (omega (arith, length-replicate {A = ℕ} n 1)))

-- the deviations of a meaning: none without bytes, and else those that are given
module _ (f : Fields) (deviations : List ℕ) where
  abbrev pub deviation_bytes : List ℕ
  deviation_bytes = spelled f.slen (replicate f.n 1) (sent_words 0 (deviation_marks f) deviations)

  pub deviations_none : f.slen ≡ 0 → deviation_bytes ≡ []
  deviations_none e = rw e (spelled_none (replicate f.n 1) (sent_words 0 (replicate f.n 0) deviations))

  pub deviations_all : (f.slen ≡ 0 → ⊥) → deviation_bytes ≡ spelled f.slen (replicate f.n 1) deviations
  deviations_all h = let e : min 1 f.slen ≡ 1 = omega arith in rw e (spelled_sent f.slen 0 (replicate f.n 1) deviations)

-- ---- marks

-- one byte more of the bit vector
pub packed_more : (k : ℕ) (marks : List ℕ) → packed (suc k) marks ≡ packed k marks ++ (value_of 2 (take 8 (drop (8 * k) marks ++ replicate 8 0)) ∷ [])
unfolding packed
packed_more zero marks = refl
packed_more (suc k) marks =
    let e : 8 * suc k ≡ 8 + 8 * k = omega arith in
    ap (λ (x : List ℕ). value_of 2 (take 8 (marks ++ replicate 8 0)) ∷ x) (packed_more k (drop 8 marks) ∙ rw (drop-drop (8 * k) 8 marks, e))

-- ---- the bits of a byte

-- eight marks from a pair on, and zeros where there are no more
module _ (marks : List ℕ) (pair : ℕ) where
  abbrev pub bits_from : List ℕ
  bits_from = drop pair marks ++ replicate 8 0

  bit_at : (i : ℕ) → get_or bits_from i 0 ≡ get_or marks (pair + i) 0
  bit_at i = get_D_zeros (drop pair marks) 8 i ∙ get_or-drop pair marks i 0

  pub bits_next : (i value mark : ℕ) → i < 8 → value ≡ value_of 2 (take i bits_from) → mark ≡ get_or marks (pair + i) 0 → value * 2 + mark ≡ value_of 2 (take (i + 1) bits_from)
  bits_next i value mark h e m =
      let inside : i < length bits_from = omega (arith, length-append (drop pair marks) (replicate 8 0)) in
      rw (e, m, add-one, ← bit_at i) (sym (value_more 2 bits_from i inside))

  pub bits_small : (i : ℕ) → i ≤ 8 → ((k : ℕ) → get_or marks k 0 ≤ 1) → value_of 2 (take i bits_from) < 256
  bits_small i h most = omega (arith, value_take_below 2 i bits_from (λ k. rw (bit_at k) (omega (arith, most (pair + k)))), pow-le-pow_right {n = 2} (omega arith) {i = i} {j = 8} h)

-- the words of a full matrix are all sent, or have no bytes
pub full_spelled : (size : ℕ) (marks words : List ℕ) → ((i : ℕ) → i < length marks → get_or marks i 0 ≡ min 1 size) → spelled size marks words ≡ spelled size (replicate (length marks) 1) words
full_spelled zero marks words all = spelled_none marks words ∙ sym (spelled_none (replicate (length marks) 1) words)
full_spelled (suc size) marks words all =
    ap (λ (ms : List ℕ). spelled (suc size) ms words) (all_same 1 marks (λ i h. omega (arith, all i h)))
