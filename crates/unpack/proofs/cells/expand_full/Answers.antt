-- The pairs have the same mark, and the diagonal has its own.
use Rattle.unpack.proofs.Rows.{cells_whole, full_marks}
use Rattle.unpack.proofs.cells.expand_full.Goals as goal

pub returns : goal.returns
returns c =
    let a = c.args in
    let room = c.requires.0 in
    let alone = c.diagonal_by_length.ensures in (
      cells_whole room.for_words alone.words_filled c.full_by_length.ensures,
      full_marks a.pack.bytes.now a.pack.found a.pack.whole c.requires.1 c.mark_of.result c.mark_of.ensures a.marks.now room.for_marks c.fill_marks.ensures alone.marks_filled,
    )
