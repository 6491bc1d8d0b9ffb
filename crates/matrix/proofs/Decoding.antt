-- The meaning that bytes have is the one that they spell. Assumes nothing.
use Prim.Native.Nat.{ℕ, zero, suc, ◌+◌, ◌*◌, ◌^◌, ◌≤◌, ◌<◌}
use mathlib.Core.Path.{◌≡◌, refl, sym, ap, ap₂, ◌∙◌, subst}
use mathlib.Core.Bool.{cond}
use mathlib.Core.List.{List, [], ◌∷◌, ◌++◌, append_assoc}
use native.Mathlib.Nat.{one-mul, mul-one}
use native.Mathlib.Omega.{arith}
use lib.ListN.{length, get_or, take, drop, replicate, length-append, length-replicate, get_or-replicate}
use lib.Seq.{take_at, drop_at}
use lib.Dec.{eqb}
use Rattle.verdict.proofs.Cases.{by_test}
use Rattle.word.specs.Digits.{digits, value_of}
use Rattle.rule.specs.Rules.{rule_of_deviations, rule_of_coefficients}
use Rattle.word.proofs.Digits.{length_digits, value_digits}
use Rattle.rule.proofs.Certain.{keeps_fits, deviation_sound, coefficient_sound, deviation_length, coefficient_length}
use Rattle.matrix.specs.declared.Fields.{Fields}
use Rattle.matrix.specs.declared.Told.{Told}
use Rattle.matrix.specs.Meaning.{sum, nought, Matrix, Lawful, Fits}
use Rattle.matrix.specs.Spelling.{meaning_behind, meaning_in, packed, spelled, bytes_of, read, meaning_of}
use Rattle.matrix.specs.Header.{header_of, header_bytes, bits, vector_bytes, marks_of}
use Rattle.matrix.specs.Pack.{MatrixPack}
use Rattle.matrix.proofs.BitVector.{length_packed, marks_back, marks_alike, sum_same}
use Rattle.matrix.proofs.Header.{header_length, header_behind, header_back}

-- ---- words

-- a mark is 1 or 0, a word that is sent fits in its bytes, and one that is not is this nought
record Readable (size none mark word : ℕ) : Type 0 where
  most : mark ≤ 1
  fits : mark ≡ 1 → word < 256 ^ size
  not_sent : mark ≡ 0 → word ≡ none

module _ (size none : ℕ) where
  word_back : (mark word : ℕ) (t : List ℕ) → Readable size none mark word → cond (eqb mark 0) none (value_of 256 (take size (digits 256 (mark * size) word ++ t))) ≡ word
  word_back zero word t r = sym (r.not_sent refl)
  word_back (suc zero) word t r = rw (one-mul, take_at (digits 256 size word) t size (length_digits 256 size word)) (value_digits 256 size word (omega arith) (r.fits refl))
  word_back (suc (suc mark)) word t r = absurd (omega arith)

  -- the words are read back, whatever is behind them
  words_back : (marks words t : List ℕ) → length words ≡ length marks → ((i : ℕ) → i < length marks → Readable size none (get_or marks i 0) (get_or words i 0)) → read size none marks (spelled size marks words ++ t) ≡ words
  unfolding read spelled
  words_back [] [] t e r = refl
  words_back [] (word ∷ words) t e r = absurd (omega arith)
  words_back (mark ∷ marks) [] t e r = absurd (omega arith)
  words_back (mark ∷ marks) (word ∷ words) t e r =
      let rest = spelled size marks words ++ t in
      rw append_assoc
      (ap₂ (λ (x : ℕ) (y : List ℕ). x ∷ y) (word_back mark word rest (r 0 (omega arith)))
      (ap (read size none marks) (drop_at (digits 256 (mark * size) word) rest (mark * size) (length_digits 256 (mark * size) word)) ∙ words_back marks words t (omega arith) (λ i h. r (suc i) (omega arith))))

pub length_spelled : (size : ℕ) (marks words : List ℕ) → length (spelled size marks words) ≡ sum marks * size
unfolding spelled sum
length_spelled size [] words = omega arith
length_spelled size (mark ∷ marks) words = rw (length-append, length_digits) (omega (arith, length_spelled size marks (drop 1 words)))

-- all words are sent where the marks are ones
pub length_ones : (size n : ℕ) (words : List ℕ) → length (spelled size (replicate n 1) words) ≡ n * size
length_ones size n words = length_spelled size (replicate n 1) words ∙ rw (sum_same, mul-one)

-- ---- a lawful meaning

module _ (m : Matrix) (g : Lawful m) where
  abbrev f : Fields
  f = m.fields

  abbrev vector : List ℕ
  vector = packed (vector_bytes f) m.marks

  abbrev deviation_bytes : List ℕ
  deviation_bytes = spelled f.slen (replicate f.n 1) m.deviations

  abbrev coefficient_bytes : List ℕ
  coefficient_bytes = spelled f.clen m.marks m.coefficients

  -- the marks are read back: from the vector if sparse, and all alike otherwise
  vector_back : marks_of f vector ≡ m.marks
  vector_back =
      by_test (λ l. l ≡ m.marks) f.cs _ _
      (λ e. let room : length m.marks ≤ vector_bytes f * 8 = rw e (omega (arith, g.values.mark_count)) in
      subst (λ (k : ℕ). take k (bits vector) ≡ m.marks) g.values.mark_count (marks_back (vector_bytes f) m.marks (λ i. omega (arith, g.values.mark_rule i)) room))
      (λ e. sym (marks_alike m g.values e))

  deviation_fits : (i : ℕ) → i < f.n → get_or m.deviations i 0 < 256 ^ f.slen
  deviation_fits i h =
      let allowed = g.fields.deviation_length in
      rw (deviation_length f.sf f.slen allowed) at (keeps_fits (rule_of_deviations f.sf f.slen) (deviation_sound f.sf f.slen allowed) (get_or m.deviations i 0) (g.values.deviation_rule i h))

  coefficient_fits : (i : ℕ) → get_or m.marks i 0 ≡ 1 → get_or m.coefficients i 0 < 256 ^ f.clen
  coefficient_fits i h =
      let allowed = g.fields.first.coefficient_length in
      rw (coefficient_length f.cf f.clen allowed) at (keeps_fits (rule_of_coefficients f.cf f.clen) (coefficient_sound f.cf f.clen allowed) (get_or m.coefficients i 0) (g.values.coefficient_rule i h))

  deviations_back : (t : List ℕ) → read f.slen 0 (replicate f.n 1) (deviation_bytes ++ t) ≡ m.deviations
  deviations_back t =
      words_back f.slen 0 (replicate f.n 1) m.deviations t (g.values.deviation_count ∙ sym (length-replicate f.n 1))
      (λ i h. let l = rw length-replicate at h in rw (get_or-replicate {A = ℕ} f.n i 1 0 l) (record { most = omega arith; fits = λ _. deviation_fits i l; not_sent = omega arith }))

  coefficients_back : (t : List ℕ) → read f.clen (nought f) m.marks (coefficient_bytes ++ t) ≡ m.coefficients
  coefficients_back t =
      words_back f.clen (nought f) m.marks m.coefficients t (g.values.coefficient_count ∙ sym g.values.mark_count)
      (λ i h. record { most = g.values.mark_rule i; fits = coefficient_fits i; not_sent = g.values.not_sent i (subst (λ (k : ℕ). i < k) g.values.mark_count h) })

  values_back : (t : List ℕ) → meaning_behind f (vector ++ (deviation_bytes ++ (coefficient_bytes ++ t))) ≡ m
  values_back t =
      let behind = deviation_bytes ++ (coefficient_bytes ++ t) in
      let count = length_packed (vector_bytes f) m.marks in
      let ends = drop_at deviation_bytes (coefficient_bytes ++ t) (f.n * f.slen) (length_ones f.slen f.n m.deviations) in
      rw (take_at vector behind (vector_bytes f) count, drop_at vector behind (vector_bytes f) count, ends, vector_back, deviations_back (coefficient_bytes ++ t), coefficients_back t)

-- a lawful meaning is read back from its bytes, whatever is behind them
pub meaning_back : (told : Told) (m : Matrix) → Lawful m → Fits told m.fields → (t : List ℕ) → meaning_of told (bytes_of m ++ t) ≡ m
meaning_back told m g fits t =
    let f = m.fields in
    let behind = packed (vector_bytes f) m.marks ++ (deviation_bytes m g ++ coefficient_bytes m g) in
    ap (meaning_of told) (append_assoc (header_of f) behind t) ∙ ap (λ (h : Fields). meaning_in h (header_of f ++ (behind ++ t))) (header_back told f g.fields fits (behind ++ t))
    ∙ ap (meaning_behind f) (header_behind f (behind ++ t)) ∙ rw (append_assoc, append_assoc) (values_back m g t)

-- lawful meanings with the same bytes are the same
pub meaning_one : (told : Told) (m k : Matrix) → Lawful m → Fits told m.fields → Lawful k → Fits told k.fields → bytes_of m ≡ bytes_of k → m ≡ k
meaning_one told m k g a h b e = sym (meaning_back told m g a []) ∙ ap (λ (w : List ℕ). meaning_of told (w ++ [])) e ∙ meaning_back told k h b []

-- what a pack's meaning keeps: it is lawful, in a mode that is let in, and spells the pack
abbrev pub Meant : Told → List ℕ → Matrix → Type 0
Meant told w m = Lawful m × Fits told m.fields × (bytes_of m ≡ w)

-- the meaning that a pack has, whatever is behind it
pub pack_meaning : (told : Told) (w t : List ℕ) → MatrixPack told w → Meant told w (meaning_of told (w ++ t))
pack_meaning told w t p =
    let e : meaning_of told (w ++ t) ≡ p.meaning = ap (λ (b : List ℕ). meaning_of told (b ++ t)) (sym p.spelled) ∙ meaning_back told p.meaning p.lawful p.fits t in
    subst (Meant told w) (sym e) (p.lawful, p.fits, p.spelled)

-- how many bytes a meaning takes
pub pack_length : (m : Matrix) → length (bytes_of m) ≡ header_bytes m.fields + (vector_bytes m.fields + (m.fields.n * m.fields.slen + sum m.marks * m.fields.clen))
pack_length m =
    let f = m.fields in
    simp length-append (omega (arith, header_length f, length_packed (vector_bytes f) m.marks, length_ones f.slen f.n m.deviations, length_spelled f.clen m.marks m.coefficients))
