-- The contract of each public function, as the source states it, admits one answer, and of `write_at` one state of the lent list. Assumes nothing.
use mathlib.Core.Path.{◌≡◌, ◌∙◌, sym}
use contract.Lifetimes.{Lfts}
use borrow.Fn.Kinds.{Dens, res_t, ended_of}
use denote.Triple.Clauses.{AtExit}
use Rattle.verdict.proofs.OneAnswer.{OneAnswer}
use Rattle.verdict.proofs.Answering.{written_own}
use Rattle.numberwriter.proofs.write.count_of.Kinds as count_of
use Rattle.numberwriter.proofs.write.count_of.Reads as count-of-reads
use Rattle.numberwriter.proofs.write.write_at.Kinds as write-at
use Rattle.numberwriter.proofs.write.write_at.Reads as write-at-reads

pub count_of_only : OneAnswer count_of.ps count_of.r count-of-reads.Post
count_of_only κs a x y s t p q = p ∙ sym q

pub write_at_only : OneAnswer write-at.ps write-at.r write-at-reads.Post
write_at_only κs a x y s t p q = written_own x y (p.said ∙ sym q.said)

pub write_at_leaves : (κs : Lfts 1) (a : Dens κs write-at.ps) (x y : (res_t write-at.r κs).Denot) (s t : AtExit (ended_of 1 write-at.ps write-at.r) κs)
    → write-at-reads.Post κs a x s → write-at-reads.Post κs a y t → s.0.now ≡ t.0.now
write_at_leaves κs a x y s t p q = p.left ∙ sym q.left
