-- The contract of each public function, as the source states it, admits one answer and one state of the lent memory. Assumes nothing.
use mathlib.Core.Path.{◌≡◌, ◌∙◌, sym}
use contract.Lifetimes.{Lfts}
use borrow.Fn.Kinds.{Dens, res_t, ended_of}
use denote.Triple.Clauses.{AtExit}
use Rattle.verdict.proofs.OneAnswer.{OneAnswer}
use Rattle.verdict.proofs.Answering.{written_own}
use Rattle.report.proofs.Chunks.{Same, fed_one}
use Rattle.report.proofs.feed.start.Kinds as start
use Rattle.report.proofs.feed.start.Reads as start-reads
use Rattle.report.proofs.feed.feed.Kinds as feed
use Rattle.report.proofs.feed.feed.Reads as feed-reads
use Rattle.report.proofs.feed.finish.Kinds as finish
use Rattle.report.proofs.feed.finish.Reads as finish-reads

pub start_only : OneAnswer start.ps start.r start-reads.Post
start_only κs a x y s t p q = p ∙ sym q

-- the answer, the line buffer and the output
pub feed_only : (κs : Lfts 3) (a : Dens κs feed.ps) (x y : (res_t feed.r κs).Denot) (s t : AtExit (ended_of 3 feed.ps feed.r) κs) → feed-reads.Post κs a x s → feed-reads.Post κs a y t
    → Same x y s.1.1.0.now t.1.1.0.now s.1.1.1.0.now t.1.1.1.0.now
feed_only κs a x y s t p q = fed_one a.0 a.1.0.now a.1.1.0.now a.1.1.1.0.now x y _ _ _ _ p q

pub finish_only : OneAnswer finish.ps finish.r finish-reads.Post
finish_only κs a x y s t p q = written_own x y (p.said ∙ sym q.said)

pub finish_leaves : (κs : Lfts 1) (a : Dens κs finish.ps) (x y : (res_t finish.r κs).Denot) (s t : AtExit (ended_of 1 finish.ps finish.r) κs)
    → finish-reads.Post κs a x s → finish-reads.Post κs a y t → s.1.0.now ≡ t.1.0.now
finish_leaves κs a x y s t p q = p.left ∙ sym q.left
