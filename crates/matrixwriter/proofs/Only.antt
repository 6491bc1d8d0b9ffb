-- The contract of `write`, as the source states it, admits one answer and one state of the lent bytes. Assumes nothing.
use mathlib.Core.Path.{◌≡◌, ◌∙◌, sym}
use contract.Lifetimes.{Lfts}
use borrow.Fn.Kinds.{Dens, res_t, ended_of}
use denote.Triple.Clauses.{AtExit}
use Rattle.verdict.proofs.OneAnswer.{OneAnswer}
use Rattle.verdict.proofs.Answering.{written_own}
use Rattle.matrixwriter.proofs.write.Kinds as write
use Rattle.matrixwriter.proofs.write.Reads as write-reads

pub write_only : OneAnswer write.ps write.r write-reads.Post
write_only κs a x y s t p q = written_own x y (p.said ∙ sym q.said)

pub write_leaves : (κs : Lfts 4) (a : Dens κs write.ps) (x y : (res_t write.r κs).Denot) (s t : AtExit (ended_of 4 write.ps write.r) κs)
    → write-reads.Post κs a x s → write-reads.Post κs a y t → s.1.1.1.1.1.0.now ≡ t.1.1.1.1.1.0.now
write_leaves κs a x y s t p q = p.left ∙ sym q.left
