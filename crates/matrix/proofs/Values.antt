-- Where each value of a meaning stands in the bytes. Assumes nothing.
use Prim.Native.Nat.{ℕ, zero, suc, ◌+◌, ◌-◌, ◌*◌, ◌/◌, ◌%◌, ◌^◌, ◌≤◌, ◌<◌, min}
use mathlib.Core.Path.{◌≡◌, refl, ◌∙◌, ap}
use mathlib.Core.Bool.{Bool, true, false, cond}
use mathlib.Core.List.{List, [], ◌∷◌}
use native.Mathlib.Nat.{zero-mul}
use native.Mathlib.Omega.{arith}
use lib.Dec.{eqb}
use lib.ListN.{length, take, drop, get_or, replicate, length-drop, length-replicate, get_or-replicate}
use lib.Seq.{get_or-take, get_or-drop, drop-drop, length-take-le}
use Rattle.word.specs.Digits.{value_on, value_of}
use Rattle.word.specs.Bytes.{word_at}
use Rattle.word.specs.Many.{words_in}
use Rattle.matrix.specs.declared.Fields.{Fields}
use Rattle.matrix.specs.Meaning.{Matrix, pairs, sum, nought}
use Rattle.matrix.specs.Spelling.{read, meaning_in}
use Rattle.matrix.specs.Header.{header_bytes, vector_bytes, bits, marks_of, vector_in, words_from}
use Rattle.matrix.proofs.Sums.{sum_ones}
use Rattle.matrix.proofs.Bits.{bits_at}

-- ---- words by their marks

-- a word stands behind the words of the marks before its own
pub read_at : (size none : ℕ) (marks bytes : List ℕ) (i : ℕ) → i < length marks
    → get_or (read size none marks bytes) i 0 ≡ cond (eqb (get_or marks i 0) 0) none (word_at bytes (sum (take i marks) * size) size)
unfolding read sum
read_at size none [] bytes i h = absurd (omega arith)
read_at size none (mark ∷ marks) bytes zero h = rw zero-mul
read_at size none (mark ∷ marks) bytes (suc i) h =
    let e : mark * size + sum (take i marks) * size ≡ (mark + sum (take i marks)) * size = omega arith in
    read_at size none marks (drop (mark * size) bytes) i (omega arith) ∙ rw (drop-drop, e)

-- words that are all sent stand one after the other
pub read_sent : (size none number : ℕ) (bytes : List ℕ) → read size none (replicate number 1) bytes ≡ words_in size number bytes
unfolding read words_in
read_sent size none zero bytes = refl
read_sent size none (suc number) bytes =
    let e : 1 * size ≡ size = omega arith in
    rw e (ap (λ (ws : List ℕ). value_of 256 (take size bytes) ∷ ws) (read_sent size none number (drop size bytes)))

-- words of no bytes are 0
read_nothing : (number : ℕ) (bytes : List ℕ) → read 0 0 (replicate number 0) bytes ≡ words_in 0 number bytes
unfolding read words_in value_on
read_nothing zero bytes = refl
read_nothing (suc number) bytes = ap (λ (ws : List ℕ). 0 ∷ ws) (read_nothing number bytes)

nought_nothing : (f : Fields) → f.clen ≡ 0 → nought f ≡ 0
nought_nothing f e = by f.cf
  where
    by : (mapped : Bool) → cond mapped (256 ^ f.clen / 4) 0 ≡ 0
    by true = rw e
    by false = refl

-- words that are all sent or have no bytes
pub read_all : (f : Fields) (number : ℕ) (bytes : List ℕ) → read f.clen (nought f) (replicate number (min 1 f.clen)) bytes ≡ words_in f.clen number bytes
read_all f number bytes = by f.clen refl
  where
    by : (size : ℕ) → f.clen ≡ size → read f.clen (nought f) (replicate number (min 1 f.clen)) bytes ≡ words_in f.clen number bytes
    by zero e = rw (nought_nothing f e, e) (read_nothing number bytes)
    by (suc size) e = let one : min 1 f.clen ≡ 1 = omega arith in rw one (read_sent f.clen (nought f) number bytes)

-- a word behind a place
pub word_behind : (bytes : List ℕ) (from place size : ℕ) → word_at (drop from bytes) place size ≡ word_at bytes (from + place) size
word_behind bytes from place size = rw drop-drop

-- ---- in the bytes that begin with the header of these fields

-- without a bit vector the marks are all alike
pub all_marked : (f : Fields) (vector : List ℕ) → f.cs ≡ false → marks_of f vector ≡ replicate (pairs f.n) (min 1 f.clen)
all_marked f vector full = rw full

-- and with one they are its first M bits
pub sparse_marked : (f : Fields) (vector : List ℕ) → f.cs ≡ true → marks_of f vector ≡ take (pairs f.n) (bits vector)
sparse_marked f vector sparse = rw sparse

module _ (f : Fields) (bytes : List ℕ) where
  abbrev m : Matrix
  m = meaning_in f bytes

  -- the words stand behind the header and the bit vector
  words_behind : drop (vector_bytes f) (drop (header_bytes f) bytes) ≡ drop (words_from f) bytes
  words_behind = drop-drop (vector_bytes f) (header_bytes f) bytes

  -- the deviations, one after the other
  pub deviations_stand : m.deviations ≡ words_in f.slen f.n (drop (words_from f) bytes)
  deviations_stand = rw words_behind (read_sent f.slen 0 f.n (drop (words_from f) bytes))

  pub deviation_at : (i : ℕ) → i < f.n → get_or m.deviations i 0 ≡ word_at bytes (words_from f + i * f.slen) f.slen
  deviation_at i h =
      read_at f.slen 0 (replicate f.n 1) (drop (vector_bytes f) (drop (header_bytes f) bytes)) i (rw length-replicate h)
      ∙ rw (get_or-replicate {A = ℕ} f.n i 1 0 h, sum_ones f.n i (omega arith), words_behind) (word_behind bytes (words_from f) (i * f.slen) f.slen)

  -- the place of the next coefficient behind so many pairs: those that are sent stand before it
  abbrev pub coefficient_place : ℕ → ℕ
  coefficient_place k = words_from f + (f.n * f.slen + sum (take k m.marks) * f.clen)

  pub coefficient_at_lem : (k : ℕ) → k < length m.marks → get_or m.coefficients k 0 ≡ cond (eqb (get_or m.marks k 0) 0) (nought f) (word_at bytes (coefficient_place k) f.clen)
  coefficient_at_lem k h =
      let values = drop (vector_bytes f) (drop (header_bytes f) bytes) in
      read_at f.clen (nought f) m.marks (drop (f.n * f.slen) values) k h
      ∙ rw (word_behind values (f.n * f.slen) (sum (take k m.marks) * f.clen) f.clen, words_behind, word_behind bytes (words_from f) (f.n * f.slen + sum (take k m.marks) * f.clen) f.clen)

  -- the coefficients of a full matrix, one after the other
  pub coefficients_stand : f.cs ≡ false → m.coefficients ≡ words_in f.clen (pairs f.n) (drop (words_from f + f.n * f.slen) bytes)
  coefficients_stand full =
      ap (λ (marks : List ℕ). read f.clen (nought f) marks (drop (f.n * f.slen) (drop (vector_bytes f) (drop (header_bytes f) bytes)))) (all_marked f (vector_in f bytes) full)
      ∙ rw (words_behind, drop-drop (f.n * f.slen) (words_from f) bytes) (read_all f (pairs f.n) (drop (words_from f + f.n * f.slen) bytes))

-- ---- marks

-- a pair's bit stands in the vector
pub vector_place : (f : Fields) (pair : ℕ) → f.cs ≡ true → pair < pairs f.n → pair / 8 < vector_bytes f
vector_place f pair e h = rw e (omega arith)

module _ (f : Fields) (bytes : List ℕ) (pair : ℕ) (h : pair < pairs f.n) where
  pub mark_sparse : f.cs ≡ true → words_from f ≤ length bytes → get_or (meaning_in f bytes).marks pair 0 ≡ get_or bytes (header_bytes f + pair / 8) 0 / 2 ^ (7 - pair % 8) % 2
  mark_sparse e l =
      let vector = vector_in f bytes in
      let behind = drop (header_bytes f) bytes in
      let count : length (vector_in f bytes) ≡ vector_bytes f = length-take-le (vector_bytes f) behind (rw length-drop (omega arith)) in
      let room : pair < length (vector_in f bytes) * 8 = rw (count, e) (omega arith) in
      ap (λ (marks : List ℕ). get_or marks pair 0) (sparse_marked f vector e)
      ∙ get_or-take (pairs f.n) (bits vector) pair 0 h ∙ bits_at vector pair room ∙ rw (get_or-take (vector_bytes f) behind (pair / 8) 0 (vector_place f pair e h), get_or-drop (header_bytes f) bytes (pair / 8) 0)

  pub mark_full : f.cs ≡ false → get_or (meaning_in f bytes).marks pair 0 ≡ min 1 f.clen
  mark_full e = ap (λ (marks : List ℕ). get_or marks pair 0) (all_marked f (vector_in f bytes) e) ∙ get_or-replicate {A = ℕ} (pairs f.n) pair (min 1 f.clen) 0 h
