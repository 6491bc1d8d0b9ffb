-- The next pair of the row, either way round, then all of them.
use Rattle.std.proofs.Common.{◌≡◌, ℕ, suc, ◌+◌, ◌-◌, ◌*◌, ◌≤◌, ◌<◌, ◌∙◌, ap, sym, subst, List, take, drop, length as size, length-set, arith}
use native.Mathlib.Nat.{zero-mul, suc-mul}
use Rattle.word.specs.Bytes.{word_at, word_of}
use Rattle.word.proofs.Whole.{part_word}
use Rattle.matrixwalk.specs.declared.Found.{Found}
use Rattle.matrix.specs.Meaning.{pairs}
use Rattle.matrix.specs.Order.{pair_at}
use Rattle.matrix.specs.Expanded.{cell_word}
use Rattle.matrix.proofs.Order.{place_below}
use Rattle.matrix.proofs.Expanded.{word_upper, word_either}
use Rattle.unpack.specs.Found.{meaning_found, coefficient_at, Whole}
use Rattle.unpack.specs.Cells.{Cells, of_row, FullRowFrom}
use Rattle.unpack.proofs.Filling.{small, full_within, full_moved, full_word}
use Rattle.unpack.proofs.Rows.{cell_within, cells_pair}
use Rattle.unpack.proofs.cells.fill_full_row.Goals as goal

moved_none : (place row length : ℕ) → place ≡ place + (row + 1 - (row + 1)) * length
moved_none place row length = let none : row + 1 - (row + 1) ≡ 0 = omega arith in rw (none, zero-mul) (omega arith)

moved_more : (first place row column length : ℕ) → row < column → place ≡ first + (column - (row + 1)) * length → place + length ≡ first + (column + 1 - (row + 1)) * length
moved_more first place row column length h e =
    let one : column + 1 - (row + 1) ≡ suc (column - (row + 1)) = omega arith in
    rw (one, e, suc-mul (column - (row + 1)) length) (omega arith)

module _ (bytes : List ℕ) (found : Found) (whole : Whole bytes found) (length row first : ℕ) (words : List ℕ) (from : FullRowFrom bytes found length row first words) where
  -- the coefficient of a column, at its place
  module _ (column place : ℕ) (h : row < column) (k : column < found.fields.n) (e : place ≡ first + (column - (row + 1)) * length) where
    pair_below : pair_at found.fields.n row column < pairs found.fields.n
    pair_below = place_below found.fields.n row column h k

    place_is : place ≡ coefficient_at (meaning_found bytes found) found (pair_at found.fields.n row column)
    place_is = full_moved bytes found whole from.from.full length from.from.length_is row column h (omega (arith, pair_below)) first place from.at e

    within : place + length ≤ size bytes
    within = omega (arith, full_within bytes found whole from.from.full (pair_at found.fields.n row column) place pair_below place_is, from.from.length_is)

    short : length ≤ 8
    short = omega (arith, from.from.length_is, (small bytes found whole).clen_few)

    -- its word is read from them
    word_is : (word : ℕ) → word ≡ word_of (take (place + length - place) (drop place bytes)) → word ≡ cell_word (meaning_found bytes found) row column
    word_is word w =
        full_word bytes found whole from.from.full (pair_at found.fields.n row column) place pair_below place_is word (w ∙ part_word bytes place length short within ∙ ap (word_at bytes place) from.from.length_is)
        ∙ sym (word_upper (meaning_found bytes found) row column h)

pub slice_bounds-word_of-end : goal.slice_bounds-word_of-end
slice_bounds-word_of-end c =
    let a = c.args in
    let l = c.loop-column in
    let begun : a.row < l.column = omega arith in
    within a.pack.bytes.now a.pack.found a.pack.whole a.length a.row a.first a.words.now c.requires l.column l.at begun c.loop-column-test.true l.invariant.0

pub bounds-words-column : goal.bounds-words-column
bounds-words-column c =
    let a = c.args in
    let l = c.loop-column in
    simp length-set (cell_within c.requires.from.room l.invariant.1 l.column a.row c.loop-column-test.true c.requires.within)

pub overflow_add-at : goal.overflow_add-at
overflow_add-at c =
    let a = c.args in
    let l = c.loop-column in
    let begun : a.row < l.column = omega arith in
    record { fits = omega (arith, within a.pack.bytes.now a.pack.found a.pack.whole a.length a.row a.first a.words.now c.requires l.column l.at begun c.loop-column-test.true l.invariant.0) }

pub loop-column-preserved : goal.loop-column-preserved
loop-column-preserved c =
    let a = c.args in
    let l = c.loop-column in
    let taken = c.loop-column-test.true in
    let begun : a.row < l.column = omega arith in
    let word = word_is a.pack.bytes.now a.pack.found a.pack.whole a.length a.row a.first a.words.now c.requires l.column l.at begun taken l.invariant.0 c.word_of-word.result c.word_of-word.ensures in (
      moved_more a.first l.at a.row l.column a.length begun l.invariant.0,
      cells_pair c.requires.from.room a.row l.column c.word_of-word.result begun taken word (word_either (meaning_found a.pack.bytes.now a.pack.found) a.row l.column) l.invariant.1,
    )

pub returns : goal.returns
returns c =
    let a = c.args in
    let l = c.loop-column in
    let all : l.column ≡ a.pack.found.fields.n = omega arith in
    subst (λ (k : ℕ). Cells a.pack.found.fields.n (cell_word (meaning_found a.pack.bytes.now a.pack.found)) (of_row a.row k) a.words.now l.words) all l.invariant.1
