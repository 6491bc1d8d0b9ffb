-- The next pair of the row, then all of them, and where the coefficients have got to.
use Rattle.std.proofs.Common.{◌≡◌, ℕ, ◌+◌, ◌*◌, ◌<◌, ◌∙◌, refl, ap, sym, subst, List, take, get_or, arith}
use Rattle.matrixwalk.specs.declared.Found.{Found}
use Rattle.matrix.specs.Meaning.{sum, pairs}
use Rattle.matrix.specs.Order.{pair_at}
use Rattle.matrix.proofs.Order.{place_below}
use Rattle.unpack.specs.declared.cells.Next.{Next}
use Rattle.unpack.specs.Found.{meaning_found, coefficient_at, Whole}
use Rattle.unpack.specs.Cells.{Grid, At, of_row}
use Rattle.unpack.proofs.Filling.{small, coefficient_place_lem, coefficient_next, coefficient_within, coefficient_is}
use Rattle.unpack.proofs.Rows.{next_pair, next_row, grid_within, grid_pair}
use Rattle.unpack.proofs.cells.fill_sparse_row.Goals as goal

-- where the next coefficient stands, as many bytes on as those before it in the row have
place_moved : (bytes : List ℕ) (found : Found) → Whole bytes found → (row column : ℕ) (next : Next) → At (meaning_found bytes found) found row column next → (place pair : ℕ)
    → place + sum (take next.pair (meaning_found bytes found).marks) * found.fields.clen ≡ next.place + sum (take pair (meaning_found bytes found).marks) * found.fields.clen
    → place ≡ coefficient_at (meaning_found bytes found) found pair
place_moved bytes found whole row column next at place pair moved =
    let m = meaning_found bytes found in
    let first : next.place ≡ coefficient_at m found next.pair = at.place ∙ ap (coefficient_at m found) (sym at.pair) in
    omega (arith, moved, coefficient_place_lem bytes found whole next.pair, coefficient_place_lem bytes found whole pair)

-- a pair of the row is one of the pack's
below : (n row column pair : ℕ) → pair ≡ pair_at n row column → row < column → column < n → pair < pairs n
below n row column pair e h k = omega (arith, e, place_below n row column h k)

pub mark_at-mark-requires : goal.mark_at-mark-requires
mark_at-mark-requires c =
    let a = c.args in
    let l = c.loop-column in
    let begun : a.row < l.column = omega arith in
    (c.header_bytes-start.ensures, below a.pack.found.fields.n a.row l.column l.pair l.invariant.pair_is begun c.loop-column-test.true)

pub any_word_or-word-requires : goal.any_word_or-word-requires
any_word_or-word-requires c =
    let a = c.args in
    let l = c.loop-column in
    let begun : a.row < l.column = omega arith in
    let w = c.args.pack.whole in
    let at = place_moved a.pack.bytes.now a.pack.found w a.row (a.row + 1) a.next c.requires.at l.place l.pair l.invariant.moved in
    let one = below a.pack.found.fields.n a.row l.column l.pair l.invariant.pair_is begun c.loop-column-test.true in
    ((small a.pack.bytes.now a.pack.found w).clen_few, coefficient_within a.pack.bytes.now a.pack.found w l.pair l.place c.mark_at-mark.result one at c.mark_at-mark.ensures a.pack.found.fields.clen refl)

pub put_pair-requires : goal.put_pair-requires
put_pair-requires c =
    let a = c.args in
    let l = c.loop-column in
    let there = grid_within (meaning_found a.pack.bytes.now a.pack.found) c.requires.room l.invariant.filled in
    let upper = there a.row l.column c.requires.within c.loop-column-test.true in
    let lower = there l.column a.row c.loop-column-test.true c.requires.within in
    ((upper.0, lower.0), (upper.1, lower.1))

pub overflow_add-place : goal.overflow_add-place
overflow_add-place c =
    let a = c.args in
    let l = c.loop-column in
    let begun : a.row < l.column = omega arith in
    let w = c.args.pack.whole in
    let at = place_moved a.pack.bytes.now a.pack.found w a.row (a.row + 1) a.next c.requires.at l.place l.pair l.invariant.moved in
    let one = below a.pack.found.fields.n a.row l.column l.pair l.invariant.pair_is begun c.loop-column-test.true in
    let taken = ap (λ (k : ℕ). k * a.pack.found.fields.clen) c.from.ensures in
    record { fits = omega (arith, taken, coefficient_within a.pack.bytes.now a.pack.found w l.pair l.place c.mark_at-mark.result one at c.mark_at-mark.ensures a.pack.found.fields.clen refl) }

pub loop-column-preserved : goal.loop-column-preserved
loop-column-preserved c =
    let a = c.args in
    let bytes = a.pack.bytes.now in
    let found = a.pack.found in
    let l = c.loop-column in
    let begun : a.row < l.column = omega arith in
    let inv = l.invariant in
    let w = c.args.pack.whole in
    let m = meaning_found bytes found in
    let mark = c.mark_at-mark in
    let put = c.put_pair.ensures in
    let taken = c.loop-column-test.true in
    let at = place_moved bytes found w a.row (a.row + 1) a.next c.requires.at l.place l.pair inv.moved in
    let one = below found.fields.n a.row l.column l.pair inv.pair_is begun taken in
    let next = coefficient_next bytes found w l.pair l.place mark.result one at mark.ensures found.fields.clen refl in
    let word = coefficient_is bytes found w l.pair l.place mark.result one at mark.ensures found.fields.clen refl a.none c.any_word_or-word.result c.requires.nought_is c.any_word_or-word.ensures in
    record {
      pair_is = omega (arith, inv.pair_is, next_pair found.fields.n a.row l.column begun);
      moved = omega (arith, inv.moved, next, ap (λ (k : ℕ). k * found.fields.clen) c.from.ensures);
      filled = rw (put.0, put.1)
          (grid_pair m c.requires.room a.row l.column c.any_word_or-word.result mark.result begun taken
          (word ∙ ap (λ (k : ℕ). get_or m.coefficients k 0) inv.pair_is) (mark.ensures ∙ ap (λ (k : ℕ). get_or m.marks k 0) inv.pair_is) inv.filled);
    }

pub returns-clause-at : goal.returns-clause-at
returns-clause-at c =
    let a = c.args in
    let l = c.loop-column in
    let n = a.pack.found.fields.n in
    let all : l.column ≡ n = omega arith in
    let ends : l.pair ≡ pair_at n (a.row + 1) (a.row + 2) = l.invariant.pair_is ∙ ap (pair_at n a.row) all ∙ next_row n a.row c.requires.within in
    let at = place_moved a.pack.bytes.now a.pack.found c.args.pack.whole a.row (a.row + 1) a.next c.requires.at l.place l.pair l.invariant.moved in
    record { pair = ends; place = at ∙ ap (coefficient_at (meaning_found a.pack.bytes.now a.pack.found) a.pack.found) ends }

pub returns-clause-grid : goal.returns-clause-grid
returns-clause-grid c =
    let a = c.args in
    let l = c.loop-column in
    let all : l.column ≡ a.pack.found.fields.n = omega arith in
    subst (λ (k : ℕ). Grid (meaning_found a.pack.bytes.now a.pack.found) (of_row a.row k) a.words.now a.marks.now l.words l.marks) all l.invariant.filled
