-- What the loops that fill the lent lists read in a whole pack: each value at its place. Assumes nothing.
use Prim.Native.Nat.{ℕ, ◌+◌, ◌-◌, ◌*◌, ◌≤◌, ◌<◌, min}
use mathlib.Core.Path.{◌≡◌, refl, ◌∙◌, ap, ap₂, sym}
use mathlib.Core.Bool.{false, cond}
use mathlib.Core.List.{List}
use native.Mathlib.Nat.{mul-le-mul_right, suc-mul}
use native.Mathlib.Numerals.{add-one}
use native.Mathlib.Omega.{arith}
use lib.Dec.{eqb}
use lib.ListN.{length, take, drop, replicate, get_or, get_or-replicate}
use Rattle.word.specs.Bytes.{word_at}
use Rattle.word.specs.Many.{words_in}
use Rattle.word.proofs.Words.{get_d_words}
use Rattle.matrix.specs.declared.Fields.{Fields}
use Rattle.matrixwalk.specs.declared.Found.{Found}
use Rattle.matrix.specs.Meaning.{Matrix, pairs, sum, nought}
use Rattle.matrix.specs.Order.{pair_at}
use Rattle.matrix.specs.Header.{vector_in, words_from}
use Rattle.matrix.proofs.ControlBytes.{clen_small, slen_small}
use Rattle.matrix.proofs.Pairs.{pairs_most}
use Rattle.unpack.specs.Found.{meaning_found, coefficient_at, Whole}
use Rattle.matrix.proofs.Sums.{sum_more, sum_first_most, sum_full, sum_first_full}
use Rattle.matrix.proofs.Values.{all_marked, word_behind, deviations_stand, deviation_at, coefficient_at_lem, coefficients_stand}

-- how large the fields of a lawful pack are
pub record Small (f : Fields) : Type 0 where
  pub size_least : 1 ≤ f.n
  pub size_most : f.n ≤ 64
  pub pairs_few : pairs f.n ≤ 2016
  pub clen_few : f.clen ≤ 8
  pub slen_few : f.slen ≤ 8

module _ (bytes : List ℕ) (found : Found) (whole : Whole bytes found) where
  abbrev f : Fields
  f = found.fields

  abbrev m : Matrix
  m = meaning_found bytes found

  pub small : Small f
  small =
      let g = whole.lawful.fields in
      record { size_least = g.first.size_least; size_most = g.first.size_most; pairs_few = pairs_most f.n g.first.size_most; clen_few = clen_small f g.first; slen_few = slen_small f g }

  pub deviation_count : length m.deviations ≡ f.n
  deviation_count = whole.lawful.values.deviation_count

  pub coefficient_count : length m.coefficients ≡ pairs f.n
  coefficient_count = whole.lawful.values.coefficient_count

  pub mark_count : length m.marks ≡ pairs f.n
  mark_count = whole.lawful.values.mark_count

  pub vector_within : words_from f ≤ length bytes
  vector_within = omega (arith, whole.start, whole.within)

  -- ---- deviations

  -- all of them, one after the other
  pub deviations_here : m.deviations ≡ words_in f.slen f.n (drop found.words bytes)
  deviations_here = deviations_stand f bytes ∙ ap (λ (k : ℕ). words_in f.slen f.n (drop k bytes)) (sym whole.start)

  pub deviations_within : found.words + f.n * f.slen ≤ length bytes
  deviations_within = omega (arith, whole.within)

  -- a deviation's word is within the bytes
  pub deviation_within : (i : ℕ) → i < f.n → found.words + i * f.slen + f.slen ≤ length bytes
  deviation_within i h = omega (arith, whole.within, mul-le-mul_right f.slen h, suc-mul i f.slen)

  pub deviation_is : (i place word : ℕ) → i < f.n → place ≡ found.words + i * f.slen → word ≡ word_at bytes place f.slen → word ≡ get_or m.deviations i 0
  deviation_is i place word h p e =
      e ∙ ap (λ (k : ℕ). word_at bytes k f.slen) (p ∙ ap (λ (k : ℕ). k + i * f.slen) whole.start) ∙ sym (deviation_at f bytes i h)

  -- ---- coefficients

  -- the place of a coefficient, from the first one's
  pub coefficient_place_lem : (pair : ℕ) → found.words + f.n * f.slen + sum (take pair m.marks) * f.clen ≡ coefficient_at m found pair
  coefficient_place_lem pair = omega arith

  coefficient_here : (pair : ℕ) → pair < pairs f.n → cond (eqb (get_or m.marks pair 0) 0) (nought f) (word_at bytes (coefficient_at m found pair) f.clen) ≡ get_or m.coefficients pair 0
  coefficient_here pair h =
      ap (λ (k : ℕ). cond (eqb (get_or m.marks pair 0) 0) (nought f) (word_at bytes (k + (f.n * f.slen + sum (take pair m.marks) * f.clen)) f.clen)) whole.start
      ∙ sym (coefficient_at_lem f bytes pair (omega (arith, mark_count)))

  -- all the words are within the bytes
  pub words_within : found.words + f.n * f.slen + sum m.marks * f.clen ≤ length bytes
  words_within = omega (arith, whole.within)

  module _ (pair place mark : ℕ) (h : pair < pairs f.n) (p : place ≡ coefficient_at (m) found pair) (e : mark ≡ get_or m.marks pair 0) (size : ℕ) (each : size ≡ f.clen) where
    -- the next place is behind the word that is sent
    pub coefficient_next : sum (take (pair + 1) m.marks) * f.clen ≡ sum (take pair m.marks) * f.clen + mark * size
    coefficient_next = rw (each, add-one, sum_more m.marks pair (omega (arith, mark_count)), ← e) (omega arith)

    -- its word is within the bytes
    pub coefficient_within : place + mark * size ≤ length bytes
    coefficient_within =
        omega (arith, coefficient_place_lem pair, coefficient_next, mul-le-mul_right f.clen (sum_first_most m.marks (pair + 1)), words_within)

    pub coefficient_is : (none word : ℕ) → none ≡ nought f → word ≡ cond (eqb mark 0) none (word_at bytes place size) → word ≡ get_or m.coefficients pair 0
    coefficient_is none word n w = w ∙ rw (n, e, p, each) (coefficient_here pair h)

  -- ---- the coefficients of a full matrix

  module _ (full : f.cs ≡ false) where
    marked : m.marks ≡ replicate (pairs f.n) (min 1 f.clen)
    marked = all_marked f (vector_in f bytes) full

    module _ (number : ℕ) (as_many : number ≡ pairs f.n) where
      pub marks_here : (mark : ℕ) → mark ≡ min 1 f.clen → m.marks ≡ replicate number mark
      marks_here mark e = marked ∙ ap₂ (λ (k j : ℕ). replicate k j) (sym as_many) (sym e)

      pub coefficients_here : m.coefficients ≡ words_in f.clen number (drop (found.words + f.n * f.slen) bytes)
      coefficients_here = coefficients_stand f bytes full ∙ ap₂ (λ (k p : ℕ). words_in f.clen k (drop (p + f.n * f.slen) bytes)) (sym as_many) (sym whole.start)

    pub coefficients_within : found.words + f.n * f.slen + pairs f.n * f.clen ≤ length bytes
    coefficients_within = omega (arith, words_within, ap (λ (ms : List ℕ). sum ms * f.clen) marked, sum_full (pairs f.n) f.clen)

    -- before a coefficient stand all the others, or none has bytes
    pub full_place : (pair : ℕ) → pair ≤ pairs f.n → coefficient_at (m) found pair ≡ found.words + f.n * f.slen + pair * f.clen
    full_place pair h = omega (arith, coefficient_place_lem pair, ap (λ (ms : List ℕ). sum (take pair ms) * f.clen) marked, sum_first_full (pairs f.n) pair f.clen h)

    -- the place behind so many coefficients is within the bytes
    pub full_reached : (pair : ℕ) → pair ≤ pairs f.n → coefficient_at (m) found pair ≤ length bytes
    full_reached pair h = omega (arith, full_place pair h, coefficients_within, mul-le-mul_right f.clen h)

    pub full_mark : (pair mark : ℕ) → pair < pairs f.n → mark ≡ min 1 f.clen → mark ≡ get_or m.marks pair 0
    full_mark pair mark h e = e ∙ sym (ap (λ (ms : List ℕ). get_or ms pair 0) marked ∙ get_or-replicate {A = ℕ} (pairs f.n) pair (min 1 f.clen) 0 h)

    module _ (pair place : ℕ) (h : pair < pairs f.n) (p : place ≡ coefficient_at (m) found pair) where
      pub full_within : place + f.clen ≤ length bytes
      full_within = omega (arith, p, full_place pair (omega arith), coefficients_within, mul-le-mul_right f.clen h, suc-mul pair f.clen)

      pub full_word : (word : ℕ) → word ≡ word_at bytes place f.clen → word ≡ get_or m.coefficients pair 0
      full_word word w =
          let first = found.words + f.n * f.slen in
          let at : place ≡ first + pair * f.clen = p ∙ full_place pair (omega arith) in
          let all = coefficients_here (pairs f.n) refl in
          w ∙ rw at (sym (word_behind bytes first (pair * f.clen) f.clen) ∙ sym (ap (λ (ws : List ℕ). get_or ws pair 0) all ∙ get_d_words f.clen (pairs f.n) (drop first bytes) pair h))

    -- so many columns on in a row, the place is as many words on
    pub full_moved : (size : ℕ) → size ≡ f.clen → (row column : ℕ) → row < column → pair_at f.n row column ≤ pairs f.n → (place₀ place : ℕ) → place₀ ≡ coefficient_at (m) found (pair_at f.n row (row + 1))
        → place ≡ place₀ + (column - (row + 1)) * size → place ≡ coefficient_at (m) found (pair_at f.n row column)
    full_moved size e row column h most place₀ place first moved =
        let k = column - (row + 1) in
        let on : pair_at f.n row column ≡ pair_at f.n row (row + 1) + (column - (row + 1)) = omega arith in
        let times : (pair_at f.n row (row + 1) + k) * f.clen ≡ pair_at f.n row (row + 1) * f.clen + k * f.clen = omega arith in
        moved ∙ rw (e, first, on, full_place (pair_at f.n row (row + 1)) (omega arith), full_place (pair_at f.n row (row + 1) + k) (omega arith), times) (omega arith)
