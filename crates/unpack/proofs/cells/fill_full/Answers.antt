-- The pairs of the next row, then of all.
use Rattle.std.proofs.Common.{◌≡◌, ℕ, ◌+◌, ◌-◌, ◌*◌, ◌<◌, ◌∙◌, ap, subst, List, arith}
use Rattle.matrixwalk.specs.declared.Found.{Found}
use Rattle.matrix.specs.Order.{pair_at}
use Rattle.matrix.specs.Expanded.{cell_word}
use Rattle.unpack.specs.Found.{meaning_found, coefficient_at, Whole}
use Rattle.unpack.specs.Cells.{Cells, of_rows, FullFrom}
use Rattle.unpack.proofs.Filling.{full_moved, full_reached}
use Rattle.unpack.proofs.Rows.{next_row, last_pair, rows_none, cells_row, first_at}
use Rattle.unpack.proofs.cells.fill_full.Goals as goal

-- the coefficients of a row end where those of the next begin
row_ends : (bytes : List ℕ) (found : Found) → Whole bytes found → (length : ℕ) (words : List ℕ) → FullFrom bytes found length words → (row place : ℕ) → row < found.fields.n
    → place ≡ coefficient_at (meaning_found bytes found) found (pair_at found.fields.n row (row + 1))
    → place + (found.fields.n - row - 1) * length ≡ coefficient_at (meaning_found bytes found) found (pair_at found.fields.n row found.fields.n)
row_ends bytes found whole length words from row place h e =
    let n = found.fields.n in
    let left : n - row - 1 ≡ n - (row + 1) = omega arith in
    full_moved bytes found whole from.full length from.length_is row n h (last_pair n row h) place (place + (n - row - 1) * length) e (ap (λ (k : ℕ). place + k * length) left)

pub loop-row-init : goal.loop-row-init
loop-row-init c = ((first_at c.args.pack.bytes.now c.args.pack.found c.args.pack.whole).place, rows_none)

pub overflow_add-place-in-loop-row : goal.overflow_add-place-in-loop-row
overflow_add-place-in-loop-row c =
    let a = c.args in
    let l = c.loop-row in
    let n = a.pack.found.fields.n in
    let taken = c.loop-row-test.true in
    record {
      fits = omega (arith, row_ends a.pack.bytes.now a.pack.found a.pack.whole a.length a.words.now c.requires l.row l.place taken l.invariant.0, full_reached a.pack.bytes.now a.pack.found c.args.pack.whole c.requires.full (pair_at n l.row n) (last_pair n l.row taken));
    }

pub loop-row-preserved : goal.loop-row-preserved
loop-row-preserved c =
    let a = c.args in
    let l = c.loop-row in
    let n = a.pack.found.fields.n in
    let taken = c.loop-row-test.true in
    let next : pair_at n l.row n ≡ pair_at n (l.row + 1) (l.row + 1 + 1) = next_row n l.row taken ∙ ap (pair_at n (l.row + 1)) (omega arith) in (
      row_ends a.pack.bytes.now a.pack.found a.pack.whole a.length a.words.now c.requires l.row l.place taken l.invariant.0 ∙ ap (coefficient_at (meaning_found a.pack.bytes.now a.pack.found) a.pack.found) next,
      cells_row l.row l.invariant.1 c.fill_full_row.ensures,
    )

pub returns : goal.returns
returns c =
    let a = c.args in
    let l = c.loop-row in
    let all : l.row ≡ a.pack.found.fields.n = omega arith in
    subst (λ (k : ℕ). Cells a.pack.found.fields.n (cell_word (meaning_found a.pack.bytes.now a.pack.found)) (of_rows k) a.words.now l.words) all l.invariant.1
