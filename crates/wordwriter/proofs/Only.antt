-- The contract of each public function, as the source states it, admits one answer, and of those that write one state of the lent list. Assumes nothing.
use mathlib.Core.Path.{◌≡◌, ◌∙◌, sym}
use contract.Lifetimes.{Lfts}
use borrow.Fn.Kinds.{Dens, res_t, ended_of}
use denote.Triple.Clauses.{AtExit}
use Rattle.verdict.proofs.OneAnswer.{OneAnswer}
use Rattle.verdict.proofs.Answering.{written_own}
use Rattle.wordwriter.proofs.bytes.write_at.Kinds as write-at
use Rattle.wordwriter.proofs.bytes.write_at.Reads as write-at-reads
use Rattle.wordwriter.proofs.many.gather.Kinds as gather
use Rattle.wordwriter.proofs.many.gather.Reads as gather-reads
use Rattle.wordwriter.proofs.many.write_all.Kinds as write-all
use Rattle.wordwriter.proofs.many.write_all.Reads as write-all-reads

pub write_at_only : OneAnswer write-at.ps write-at.r write-at-reads.Post
write_at_only κs a x y s t p q = written_own x y (p.said ∙ sym q.said)

pub write_at_leaves : (κs : Lfts 1) (a : Dens κs write-at.ps) (x y : (res_t write-at.r κs).Denot) (s t : AtExit (ended_of 1 write-at.ps write-at.r) κs)
    → write-at-reads.Post κs a x s → write-at-reads.Post κs a y t → s.0.now ≡ t.0.now
write_at_leaves κs a x y s t p q = p.left ∙ sym q.left

pub gather_only : OneAnswer gather.ps gather.r gather-reads.Post
gather_only κs a x y s t p q = p ∙ sym q

pub write_all_only : OneAnswer write-all.ps write-all.r write-all-reads.Post
write_all_only κs a x y s t p q = written_own x y (p.said ∙ sym q.said)

pub write_all_leaves : (κs : Lfts 2) (a : Dens κs write-all.ps) (x y : (res_t write-all.r κs).Denot) (s t : AtExit (ended_of 2 write-all.ps write-all.r) κs)
    → write-all-reads.Post κs a x s → write-all-reads.Post κs a y t → s.0.now ≡ t.0.now
write_all_leaves κs a x y s t p q = p.left ∙ sym q.left
