-- The cells of the expanded matrix: the word and the mark that each has, the same either way round. Assumes nothing.
use Prim.Native.Nat.{ℕ, ◌+◌, ◌*◌, ◌<◌, min}
use mathlib.Core.Path.{◌≡◌, refl, ◌∙◌, ap₂, sym}
use mathlib.Core.Bool.{cond}
use native.Mathlib.Omega.{arith}
use borrow.Author.Tests.{eq-eqb, ne_eqb, eqb-true, eqb-false}
use lib.Dec.{eqb}
use lib.ListN.{get_or}
use Rattle.verdict.proofs.Cases.{either}
use Rattle.matrix.specs.Meaning.{Matrix}
use Rattle.matrix.specs.Order.{pair_at}
use Rattle.matrix.specs.Expanded.{pair_of, cell_word, cell_mark, expanded_words, expanded_marks}
use Rattle.matrix.proofs.Squares.{square_at}

-- ---- a value of the diagonal, or of a pair

module _ (n : ℕ) (alone paired : ℕ → ℕ) where
  abbrev value_at : ℕ → ℕ → ℕ
  value_at i j = cond (eqb i j) (alone i) (paired (pair_of n i j))

  either_way : (i j : ℕ) → value_at i j ≡ value_at j i
  either_way i j =
      let same : pair_of n i j ≡ pair_of n j i = ap₂ (pair_at n) (omega arith) (omega arith) in
      either (eqb i j) (λ t. let e = eqb-true i j t in rw e refl) (λ t. rw (t, ne_eqb j i (λ e. eqb-false i j t (sym e)), same))

  on_diagonal : (i : ℕ) → value_at i i ≡ alone i
  on_diagonal i = rw (eq-eqb i i refl)

  above : (row column : ℕ) → row < column → value_at row column ≡ paired (pair_at n row column)
  above row column h =
      let same : pair_of n row column ≡ pair_at n row column = ap₂ (pair_at n) (omega arith) (omega arith) in
      rw (ne_eqb row column (omega arith), same)

-- ---- words and marks

module _ (m : Matrix) where
  abbrev n : ℕ
  n = m.fields.n

  abbrev deviation : ℕ → ℕ
  deviation i = get_or m.deviations i 0

  abbrev coefficient : ℕ → ℕ
  coefficient pair = get_or m.coefficients pair 0

  abbrev deviation_mark : ℕ → ℕ
  deviation_mark i = min 1 m.fields.slen

  abbrev mark : ℕ → ℕ
  mark pair = get_or m.marks pair 0

  pub word_alone : (i : ℕ) → cell_word m i i ≡ get_or m.deviations i 0
  word_alone = on_diagonal n deviation coefficient

  pub mark_alone : (i : ℕ) → cell_mark m i i ≡ min 1 m.fields.slen
  mark_alone = on_diagonal n deviation_mark mark

  -- the same at (i, j) and (j, i)
  pub word_either : (i j : ℕ) → cell_word m i j ≡ cell_word m j i
  word_either = either_way n deviation coefficient

  pub mark_either : (i j : ℕ) → cell_mark m i j ≡ cell_mark m j i
  mark_either = either_way n deviation_mark mark

  module _ (row column : ℕ) (h : row < column) where
    pub word_upper : cell_word m row column ≡ get_or m.coefficients (pair_at m.fields.n row column) 0
    word_upper = above n deviation coefficient row column h

    pub word_lower : cell_word m column row ≡ get_or m.coefficients (pair_at m.fields.n row column) 0
    word_lower = word_either column row ∙ word_upper

    pub mark_upper : cell_mark m row column ≡ get_or m.marks (pair_at m.fields.n row column) 0
    mark_upper = above n deviation_mark mark row column h

    pub mark_lower : cell_mark m column row ≡ get_or m.marks (pair_at m.fields.n row column) 0
    mark_lower = mark_either column row ∙ mark_upper

-- ---- the expanded matrix

pub expanded_word : (m : Matrix) (i j : ℕ) → i < m.fields.n → j < m.fields.n → get_or (expanded_words m) (i * m.fields.n + j) 0 ≡ cell_word m i j
expanded_word m = square_at m.fields.n (cell_word m)

pub expanded_mark : (m : Matrix) (i j : ℕ) → i < m.fields.n → j < m.fields.n → get_or (expanded_marks m) (i * m.fields.n + j) 0 ≡ cell_mark m i j
expanded_mark m = square_at m.fields.n (cell_mark m)
