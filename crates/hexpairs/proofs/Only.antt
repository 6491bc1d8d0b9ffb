-- The contract of `decode`, as the source states it, admits one answer and one state of the lent memory. Assumes nothing.
use mathlib.Core.Path.{◌≡◌, ◌∙◌, sym}
use contract.Lifetimes.{Lfts}
use borrow.Fn.Kinds.{Dens, res_t, ended_of}
use denote.Triple.Clauses.{AtExit}
use Rattle.verdict.proofs.OneAnswer.{OneAnswer}
use Rattle.verdict.proofs.Answering.{written_own}
use Rattle.hexpairs.proofs.decode.Kinds as decode
use Rattle.hexpairs.proofs.decode.Reads as decode-reads

pub decode_only : OneAnswer decode.ps decode.r decode-reads.Post
decode_only κs a x y s t p q = written_own x y (p.said ∙ sym q.said)

pub decode_leaves : (κs : Lfts 2) (a : Dens κs decode.ps) (x y : (res_t decode.r κs).Denot) (s t : AtExit (ended_of 2 decode.ps decode.r) κs)
    → decode-reads.Post κs a x s → decode-reads.Post κs a y t → s.1.0.now ≡ t.1.0.now
decode_leaves κs a x y s t p q = p.left ∙ sym q.left
