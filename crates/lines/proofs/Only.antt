-- The contract of the public function, as the source states it, admits one answer and one state of the line buffer. Assumes nothing.
use mathlib.Core.Path.{◌≡◌, ◌∙◌, sym}
use contract.Lifetimes.{Lfts}
use borrow.Fn.Kinds.{Dens, res_t, ended_of}
use denote.Triple.Clauses.{AtExit}
use Rattle.verdict.proofs.OneAnswer.{OneAnswer}
use Rattle.lines.proofs.take_piece.Kinds as take-piece
use Rattle.lines.proofs.take_piece.Reads as take-piece-reads

pub take_piece_only : OneAnswer take-piece.ps take-piece.r take-piece-reads.Post
take_piece_only κs a x y s t p q = p.said ∙ sym q.said

pub take_piece_leaves : (κs : Lfts 2) (a : Dens κs take-piece.ps) (x y : (res_t take-piece.r κs).Denot) (s t : AtExit (ended_of 2 take-piece.ps take-piece.r) κs)
    → take-piece-reads.Post κs a x s → take-piece-reads.Post κs a y t → s.1.1.0.now ≡ t.1.1.0.now
take_piece_leaves κs a x y s t p q = p.left ∙ sym q.left
