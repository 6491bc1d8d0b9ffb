-- The diagonal and then all rows are filled in.
use Rattle.unpack.proofs.Rows.{cells_whole}
use Rattle.unpack.proofs.cells.expand_sparse.Goals as goal

pub returns : goal.returns
returns c =
    let room = c.requires in
    let alone = c.diagonal_by_length.ensures in
    let paired = c.fill_sparse.ensures in
    (cells_whole room.for_words alone.words_filled paired.words_filled, cells_whole room.for_marks alone.marks_filled paired.marks_filled)
