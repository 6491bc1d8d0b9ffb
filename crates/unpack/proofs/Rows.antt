-- The cells that the loops fill, one more each time: the diagonal, the pairs of a row, the rows; and the marks of a full matrix. Assumes nothing.
use Prim.Native.Nat.{ℕ, zero, suc, ◌+◌, ◌-◌, ◌*◌, ◌<◌, ◌≤◌, min, max}
use mathlib.Core.Path.{◌≡◌, refl, ◌∙◌, ap, sym, subst}
use mathlib.Core.Bool.{Bool, true, false, ◌&&◌, ◌||◌, false≢true}
use mathlib.Core.List.{List}
use native.Mathlib.Nat.{mul-le-mul_left}
use native.Mathlib.Omega.{arith}
use borrow.Author.Tests.{eqb-true, eqb-false, ltb-true, ltb-false}
use lib.Dec.{eqb, ltb}
use lib.ListN.{length, get_or, set, replicate, length-replicate, get_or-replicate}
use Rattle.matrixwalk.specs.declared.Found.{Found}
use Rattle.matrix.specs.Meaning.{Matrix, sum, pairs}
use Rattle.matrix.specs.Order.{pair_at}
use Rattle.verdict.proofs.Cases.{either}
use Rattle.matrix.proofs.Order.{place_below}
use Rattle.matrix.specs.Expanded.{pair_of, cell_mark, square, expanded_marks}
use Rattle.verdict.specs.Lent.{over}
use Rattle.unpack.specs.Cells.{Cells, Grid, At, Room, diagonal, of_row, of_rows}
use Rattle.unpack.specs.Found.{meaning_found, coefficient_at, Whole}
use Rattle.unpack.proofs.Filling.{coefficient_place_lem, full_mark}
use Rattle.matrix.proofs.Squares.{cell_below}
use Rattle.matrix.proofs.Expanded.{word_alone, mark_alone, word_upper, mark_upper, word_either, mark_either}
use Rattle.unpack.proofs.Tests.{Tells, tells_equal, tells_less, tells_both, tells_either, tells_always, tells_never}
use Rattle.unpack.proofs.Grids.{only, every, cells_none, cells_only, cells_both, cells_more, cells_over, cells_all, room_kept}

-- ---- the order of pairs

pub first_pair : (n : ℕ) → pair_at n 0 1 ≡ 0
first_pair n = omega arith

pub next_pair : (n row column : ℕ) → row < column → pair_at n row (column + 1) ≡ pair_at n row column + 1
next_pair n row column h = omega arith

-- a row's end is the beginning of the next
pub next_row : (n row : ℕ) → row < n → pair_at n row n ≡ pair_at n (row + 1) (row + 2)
next_row n row h = omega (arith, mul-le-mul_left row h)

-- a row's pairs are among all of them
row_pairs : (n row : ℕ) → row + 1 < n → pair_at n row n ≤ pairs n
row_pairs n row h = let b = place_below n row (n - 1) (omega arith) (omega arith) in omega arith

pub last_pair : (n row : ℕ) → row < n → pair_at n row n ≤ pairs n
last_pair n zero h = either (ltb 1 n) (λ t. row_pairs n 0 (omega (arith, ltb-true 1 n t))) (λ t. let f = ltb-false 1 n t in omega arith)
last_pair n (suc row) h =
    let e : row + 1 ≡ suc row = omega arith in
    let l : row + 2 ≡ suc row + 1 = omega arith in
    let next : pair_at n row n ≡ pair_at n (suc row) (suc row + 1) = next_row n row (omega arith) ∙ rw (e, l) in
    either (ltb (suc row + 1) n) (λ t. row_pairs n (suc row) (ltb-true (suc row + 1) n t))
    (λ t.
    let last : suc row + 1 ≡ n = omega (arith, h, ltb-false (suc row + 1) n t) in
    subst (λ (k : ℕ). pair_at n (suc row) k ≤ pairs n) last (subst (λ (k : ℕ). k ≤ pairs n) next (row_pairs n row (omega arith))))

-- ---- which cells

-- both places of a pair
abbrev places : ℕ → ℕ → ℕ → ℕ → Bool
places row column i j = eqb (min i j) row && eqb (max i j) column

module _ (i j : ℕ) where
  only_tells : (a b : ℕ) → Tells (only a b i j) ((i ≡ a) × (j ≡ b))
  only_tells a b = tells_both (tells_equal i a) (tells_equal j b)

  diagonal_tells : (count : ℕ) → Tells (diagonal count i j) ((i ≡ j) × (i < count))
  diagonal_tells count = tells_both (tells_equal i j) (tells_less i count)

  places_tell : (row column : ℕ) → Tells (places row column i j) ((min i j ≡ row) × (max i j ≡ column))
  places_tell row column = tells_both (tells_equal (min i j) row) (tells_equal (max i j) column)

  row_tells : (row column : ℕ) → Tells (of_row row column i j) ((min i j ≡ row) × ((row < max i j) × (max i j < column)))
  row_tells row column = tells_both (tells_equal (min i j) row) (tells_both (tells_less row (max i j)) (tells_less (max i j) column))

  rows_tell : (count : ℕ) → Tells (of_rows count i j) ((min i j < count) × (min i j < max i j))
  rows_tell count = tells_both (tells_less (min i j) count) (tells_less (min i j) (max i j))

  diagonal_more : (count : ℕ) → diagonal (count + 1) i j ≡ diagonal count i j || only count count i j
  diagonal_more count =
      tells_either (ltb i count) (diagonal_tells count) (only_tells count count) (diagonal_tells (count + 1)) (omega arith) (omega arith)
      (λ t. let l = ltb-true i count t in omega arith) (λ t. let l = ltb-false i count t in omega arith)

  places_are : (row column : ℕ) → row ≤ column → places row column i j ≡ only row column i j || only column row i j
  places_are row column h =
      tells_either (ltb i (j + 1)) (only_tells row column) (only_tells column row) (places_tell row column) (omega arith) (omega arith)
      (λ t. let l = ltb-true i (j + 1) t in omega arith) (λ t. let l = ltb-false i (j + 1) t in omega arith)

  row_more : (row column : ℕ) → row < column → of_row row (column + 1) i j ≡ of_row row column i j || places row column i j
  row_more row column h =
      tells_either (ltb (max i j) column) (row_tells row column) (places_tell row column) (row_tells row (column + 1)) (omega arith) (omega arith)
      (λ t. let l = ltb-true (max i j) column t in omega arith) (λ t. let l = ltb-false (max i j) column t in omega arith)

  rows_more : (n row : ℕ) → i < n → j < n → of_rows (row + 1) i j ≡ of_rows row i j || of_row row n i j
  rows_more n row h k =
      tells_either (ltb (min i j) row) (rows_tell row) (row_tells row n) (rows_tell (row + 1)) (omega arith) (omega arith)
      (λ t. let l = ltb-true (min i j) row t in omega arith) (λ t. let l = ltb-false (min i j) row t in omega arith)

  all_cells : (n : ℕ) → i < n → j < n → true ≡ diagonal n i j || of_rows n i j
  all_cells n h k =
      tells_either (eqb i j) (diagonal_tells n) (rows_tell n) (tells_always (i < n) h) (omega arith) (omega arith)
      (λ t. let l = eqb-true i j t in omega arith) (λ t. let l = eqb-false i j t in omega arith)

-- ---- before each loop

module _ {n : ℕ} {value : ℕ → ℕ → ℕ} {out : List ℕ} where
  pub diagonal_none : Cells n value (diagonal 0) out out
  diagonal_none = cells_none (λ i j. tells_never (diagonal_tells i j 0) (omega arith))

  pub row_none : (row : ℕ) → Cells n value (of_row row (row + 1)) out out
  row_none row = cells_none (λ i j. tells_never (row_tells i j row (row + 1)) (omega arith))

  pub rows_none : Cells n value (of_rows 0) out out
  rows_none = cells_none (λ i j. tells_never (rows_tell i j 0) (omega arith))

-- ---- one step of each loop

-- a value at both places of a pair
abbrev put_pair : ℕ → ℕ → ℕ → ℕ → List ℕ → List ℕ
put_pair n row column v out = set (set out (row * n + column) v) (column * n + row) v

module _ {n : ℕ} {value : ℕ → ℕ → ℕ} where
  module _ {out₀ out : List ℕ} (room : n * n ≤ length out₀) where
    pub cell_within : {filled : ℕ → ℕ → Bool} → Cells n value filled out₀ out → (i j : ℕ) → i < n → j < n → i * n + j < length out
    cell_within c i j h k = omega (arith, cell_below n i j h k, c.same_length)

    -- the next cell of the diagonal
    pub cells_diagonal : (i v : ℕ) → i < n → v ≡ value i i → Cells n value (diagonal i) out₀ out → Cells n value (diagonal (i + 1)) out₀ (set out (i * n + i) v)
    cells_diagonal i v h e c = cells_more (diagonal (i + 1)) (λ x y _ _. diagonal_more x y i) c (cells_only i i v out h h (room_kept room c) e)

    -- both cells of the next pair of a row
    pub cells_pair : (row column v : ℕ) → row < column → column < n → v ≡ value row column → value row column ≡ value column row → Cells n value (of_row row column) out₀ out
        → Cells n value (of_row row (column + 1)) out₀ (put_pair n row column v out)
    cells_pair row column v h k e same c =
        let upper = cells_only row column v out (omega arith) k (room_kept room c) e in
        let lower = cells_only column row v (set out (row * n + column) v) k (omega arith) (room_kept (room_kept room c) upper) (e ∙ same) in
        cells_more (of_row row (column + 1)) (λ x y _ _. row_more x y row column h) c (cells_more (places row column) (λ x y _ _. places_are x y row column (omega arith)) upper lower)

  module _ {out₀ out₁ out₂ : List ℕ} where
    -- the next row
    pub cells_row : (row : ℕ) → Cells n value (of_rows row) out₀ out₁ → Cells n value (of_row row n) out₁ out₂ → Cells n value (of_rows (row + 1)) out₀ out₂
    cells_row row = cells_more (of_rows (row + 1)) (λ x y h k. rows_more x y n row h k)

    -- the diagonal and all rows
    pub cells_whole : n * n ≤ length out₀ → Cells n value (diagonal n) out₀ out₁ → Cells n value (of_rows n) out₁ out₂ → out₂ ≡ over (square n value) out₀
    cells_whole room c d = cells_all room (cells_more every (λ x y h k. all_cells x y n h k) c d)

-- ---- words and marks together

module _ (m : Matrix) where
  abbrev size : ℕ
  size = m.fields.n

  module _ {words₀ marks₀ words marks : List ℕ} (room : Room m words₀ marks₀) where
    pub grid_within : {filled : ℕ → ℕ → Bool} → Grid m filled words₀ marks₀ words marks → (i j : ℕ) → i < size → j < size → (i * size + j < length words) × (i * size + j < length marks)
    grid_within g i j h k = (cell_within room.for_words g.words_filled i j h k, cell_within room.for_marks g.marks_filled i j h k)

    pub grid_diagonal : (i word mark : ℕ) → i < size → word ≡ get_or m.deviations i 0 → mark ≡ min 1 m.fields.slen → Grid m (diagonal i) words₀ marks₀ words marks
        → Grid m (diagonal (i + 1)) words₀ marks₀ (set words (i * size + i) word) (set marks (i * size + i) mark)
    grid_diagonal i word mark h e d g =
        record {
          words_filled = cells_diagonal room.for_words i word h (e ∙ sym (word_alone m i)) g.words_filled;
          marks_filled = cells_diagonal room.for_marks i mark h (d ∙ sym (mark_alone m i)) g.marks_filled;
        }

    pub grid_pair : (row column word mark : ℕ) → row < column → column < size → word ≡ get_or m.coefficients (pair_at size row column) 0 → mark ≡ get_or m.marks (pair_at size row column) 0
        → Grid m (of_row row column) words₀ marks₀ words marks → Grid m (of_row row (column + 1)) words₀ marks₀ (put_pair size row column word words) (put_pair size row column mark marks)
    grid_pair row column word mark h k e d g =
        record {
          words_filled = cells_pair room.for_words row column word h k (e ∙ sym (word_upper m row column h)) (word_either m row column) g.words_filled;
          marks_filled = cells_pair room.for_marks row column mark h k (d ∙ sym (mark_upper m row column h)) (mark_either m row column) g.marks_filled;
        }

-- ---- the marks of a full matrix

module _ (bytes : List ℕ) (found : Found) (whole : Whole bytes found) (full : found.fields.cs ≡ false) (mark : ℕ) (is : mark ≡ min 1 found.fields.clen) where
  abbrev n : ℕ
  n = found.fields.n

  full_mark_at : (i j : ℕ) → i < n → j < n → diagonal n i j ≡ false → mark ≡ cell_mark (meaning_found bytes found) i j
  full_mark_at i j h k s =
      either (eqb i j) (λ t. absurd (false≢true (sym s ∙ (diagonal_tells i j n).finds (eqb-true i j t, h))))
      (λ t. let apart = eqb-false i j t in rw t (full_mark bytes found whole full (pair_of n i j) mark (place_below n (min i j) (max i j) (omega arith) (omega arith)) is))

  -- all are the same, and then the diagonal has its own
  pub full_marks : (marks₀ : List ℕ) {marks₁ marks₂ : List ℕ} → n * n ≤ length marks₀ → marks₁ ≡ over (replicate (n * n) mark) marks₀ → Cells n (cell_mark (meaning_found bytes found)) (diagonal n) marks₁ marks₂
      → marks₂ ≡ over (expanded_marks (meaning_found bytes found)) marks₀
  full_marks marks₀ {marks₁} room e c =
      let same : Cells n (λ _ _. mark) every marks₀ marks₁ = rw e (cells_over room (replicate (n * n) mark) (length-replicate (n * n) mark) (λ i j h k. get_or-replicate {A = ℕ} (n * n) (i * n + j) mark 0 (cell_below n i j h k))) in
      cells_all room (cells_both every (λ _ _ _ _. refl) (λ i j h k _ s. full_mark_at i j h k s) same c)

-- the first coefficient is behind the deviations
pub first_at : (bytes : List ℕ) (found : Found) → Whole bytes found → At (meaning_found bytes found) found 0 1 (record { place = found.words + found.fields.n * found.fields.slen; pair = 0 })
unfolding sum
first_at bytes found whole =
    let m = meaning_found bytes found in
    record { pair = sym (first_pair m.fields.n); place = omega (arith, coefficient_place_lem bytes found whole 0) ∙ ap (coefficient_at m found) (sym (first_pair m.fields.n)) }
