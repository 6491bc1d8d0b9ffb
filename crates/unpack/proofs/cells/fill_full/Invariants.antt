-- The pairs of the first `row` rows are filled in.
use Rattle.std.proofs.Common.{◌≡◌, ◌+◌}
use Rattle.matrix.specs.Order.{pair_at}
use Rattle.matrix.specs.Expanded.{cell_word}
use Rattle.unpack.specs.Found.{meaning_found, coefficient_at}
use Rattle.unpack.specs.Cells.{Cells, of_rows}
use Rattle.unpack.proofs.cells.fill_full.Given as goal

abbrev pub invariant-loop-row : goal.invariant-loop-row
invariant-loop-row l =
    (l.place ≡ coefficient_at (meaning_found l.pack.bytes.now l.pack.found) l.pack.found (pair_at l.f.n l.row (l.row + 1)))
    × Cells l.f.n (cell_word (meaning_found l.pack.bytes.now l.pack.found)) (of_rows l.row) l.initial.words l.words
