-- The pairs of the next row, then of all.
use Rattle.std.proofs.Common.{◌≡◌, ℕ, ◌+◌, subst, arith}
use Rattle.unpack.specs.Found.{meaning_found}
use Rattle.unpack.specs.Cells.{Grid, At, of_rows}
use Rattle.unpack.proofs.Rows.{rows_none, cells_row, first_at}
use Rattle.unpack.proofs.cells.fill_sparse.Goals as goal

pub loop-row-init : goal.loop-row-init
loop-row-init c = (first_at c.args.pack.bytes.now c.args.pack.found c.args.pack.whole, record { words_filled = rows_none; marks_filled = rows_none })

pub loop-row-preserved : goal.loop-row-preserved
loop-row-preserved c =
    let a = c.args in
    let l = c.loop-row in
    let further : l.row + 2 ≡ l.row + 1 + 1 = omega arith in
    let filled = l.invariant.1 in
    let r = c.fill_sparse_row-next in
    let more = r.ensures.grid in (
      subst (λ (k : ℕ). At (meaning_found a.pack.bytes.now a.pack.found) a.pack.found (l.row + 1) k r.result) further r.ensures.at,
      record { words_filled = cells_row l.row filled.words_filled more.words_filled; marks_filled = cells_row l.row filled.marks_filled more.marks_filled },
    )

pub returns : goal.returns
returns c =
    let a = c.args in
    let l = c.loop-row in
    let all : l.row ≡ a.pack.found.fields.n = omega arith in
    subst (λ (k : ℕ). Grid (meaning_found a.pack.bytes.now a.pack.found) (of_rows k) a.words.now a.marks.now l.words l.marks) all l.invariant.1
