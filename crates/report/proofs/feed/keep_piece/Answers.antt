-- What is taken is within the chunk.
use Rattle.std.proofs.Common.{◌≡◌, length, drop, arith}
use Rattle.std.proofs.lemmas.Slice.{between_to_end}
use Rattle.lines.specs.Taking.{piece_of}
use Rattle.lines.proofs.Pieces.{piece_within}
use lib.ListN.{length-drop}
use Rattle.report.proofs.Chunks.{taken_count}
use Rattle.report.proofs.feed.keep_piece.Goals as goal

pub overflow_add-result : goal.overflow_add-result
overflow_add-result c =
    let a = c.args in
    let rest = drop a.at.taken a.chunk.now in
    let count : c.unwrap-piece.result.count ≡ length (piece_of rest) = taken_count a.at.state.held rest a.line.now c.take_piece.result c.take_piece.new.line c.unwrap-piece.result c.requires.0 (rw (between_to_end a.chunk.now a.at.taken (length a.chunk.now) (omega arith)) at c.take_piece.ensures) c.unwrap-piece.ensures in
    record { fits = omega (arith, count, piece_within rest, length-drop a.at.taken a.chunk.now, c.requires.1) }
