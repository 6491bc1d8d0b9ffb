-- The pairs of the first `row` rows are filled in.
use Rattle.std.proofs.Common.{◌+◌}
use Rattle.unpack.specs.Found.{meaning_found}
use Rattle.unpack.specs.Cells.{Grid, At, of_rows}
use Rattle.unpack.proofs.cells.fill_sparse.Given as goal

abbrev pub invariant-loop-row : goal.invariant-loop-row
invariant-loop-row l =
    At (meaning_found l.pack.bytes.now l.pack.found) l.pack.found l.row (l.row + 1) l.next × Grid (meaning_found l.pack.bytes.now l.pack.found) (of_rows l.row) l.initial.words l.initial.marks l.words l.marks
