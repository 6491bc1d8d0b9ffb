-- The contract of each public function, as the source states it, admits one answer and one state of the lent memory. Assumes nothing.
use mathlib.Core.Path.{◌≡◌, ◌∙◌, sym}
use contract.Lifetimes.{Lfts}
use borrow.Fn.Kinds.{Dens, res_t, ended_of}
use denote.Triple.Clauses.{AtExit}
use Rattle.verdict.proofs.OneAnswer.{OneAnswer}
use Rattle.verdict.proofs.Answering.{written_own}
use Rattle.text.proofs.write_line.Kinds as write-line
use Rattle.text.proofs.write_line.Reads as write-line-reads
use Rattle.text.proofs.write_failure.Kinds as write-failure
use Rattle.text.proofs.write_failure.Reads as write-failure-reads

pub write_line_only : OneAnswer write-line.ps write-line.r write-line-reads.Post
write_line_only κs a x y s t p q = written_own x y (p.written.said ∙ sym q.written.said)

pub write_line_leaves : (κs : Lfts 1) (a : Dens κs write-line.ps) (x y : (res_t write-line.r κs).Denot) (s t : AtExit (ended_of 1 write-line.ps write-line.r) κs)
    → write-line-reads.Post κs a x s → write-line-reads.Post κs a y t → s.1.1.0.now ≡ t.1.1.0.now
write_line_leaves κs a x y s t p q = p.written.left ∙ sym q.written.left

pub write_failure_only : OneAnswer write-failure.ps write-failure.r write-failure-reads.Post
write_failure_only κs a x y s t p q = written_own x y (p.said ∙ sym q.said)

pub write_failure_leaves : (κs : Lfts 1) (a : Dens κs write-failure.ps) (x y : (res_t write-failure.r κs).Denot) (s t : AtExit (ended_of 1 write-failure.ps write-failure.r) κs)
    → write-failure-reads.Post κs a x s → write-failure-reads.Post κs a y t → s.1.1.0.now ≡ t.1.1.0.now
write_failure_leaves κs a x y s t p q = p.left ∙ sym q.left
