-- It is where LF is found first.
use Rattle.std.proofs.Common.{◌∙◌}
use Rattle.lines.proofs.Pieces.{end_found}
use Rattle.lines.proofs.piece_end.Goals as goal

pub returns : goal.returns
returns c = c.unwrap_or.ensures ∙ end_found c.args.chunk.now c.memchr.result c.memchr.ensures
