-- The characters before LF are found and kept.
use Rattle.std.proofs.Common.{arith, length, sym}
use borrow.Author.Tests.{le-ltb}
use lib.Seq.{length-take-le}
use Rattle.lines.specs.Taking.{longest_line}
use Rattle.lines.proofs.Pieces.{piece_within, piece_front}
use Rattle.lines.proofs.take_piece.Goals as goal

pub slice_bounds-keep-end : goal.slice_bounds-keep-end
slice_bounds-keep-end c = sym (length-take-le c.piece_end-count.result c.args.chunk.now (omega (arith, c.piece_end-count.ensures, piece_within c.args.chunk.now)))

pub returns : goal.returns
returns c =
    let a = c.args in
    let room = le-ltb (length a.line.now) longest_line c.if-line-lt-LINE.false in
    record {
      said = rw (room, c.held_with.ensures, c.piece_end-count.ensures);
      left = rw (room, ← piece_front a.chunk.now, ← c.piece_end-count.ensures) c.keep.ensures;
    }
