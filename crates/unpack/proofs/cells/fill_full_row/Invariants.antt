-- The pairs of the row up to `column` are filled in, and the next coefficient is as many bytes on as they have.
use Rattle.std.proofs.Common.{◌≡◌, ◌+◌, ◌*◌, ◌-◌}
use Rattle.matrix.specs.Expanded.{cell_word}
use Rattle.unpack.specs.Found.{meaning_found}
use Rattle.unpack.specs.Cells.{Cells, of_row}
use Rattle.unpack.proofs.cells.fill_full_row.Given as goal

abbrev pub invariant-loop-column : goal.invariant-loop-column
invariant-loop-column l =
    (l.at ≡ l.first + (l.column - (l.row + 1)) * l.length)
    × Cells l.pack.found.fields.n (cell_word (meaning_found l.pack.bytes.now l.pack.found)) (of_row l.row l.column) l.initial.words l.words
