-- The first `i` cells of the diagonal are filled in.
use Rattle.std.proofs.Common.{◌≡◌, ◌+◌, ◌*◌}
use Rattle.unpack.specs.Found.{meaning_found}
use Rattle.unpack.specs.Cells.{Grid, diagonal}
use Rattle.unpack.proofs.cells.fill_diagonal.Given as goal

abbrev pub invariant-loop-i : goal.invariant-loop-i
invariant-loop-i l =
    (l.place ≡ l.initial.place + l.i * l.length) × Grid (meaning_found l.pack.bytes.now l.pack.found) (diagonal l.i) l.initial.words l.initial.marks l.words l.marks
