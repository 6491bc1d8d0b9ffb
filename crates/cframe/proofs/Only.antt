-- The contract of the call, as the source states it, admits one answer, and one letter in the lent byte. Assumes nothing.
use mathlib.Core.Path.{◌≡◌, ◌∙◌, sym}
use contract.Lifetimes.{Lfts}
use borrow.Fn.Kinds.{Dens, res_t, ended_of}
use denote.Triple.Clauses.{AtExit}
use Rattle.cframe.proofs.frame_verdict.Kinds as frame-verdict
use Rattle.cframe.proofs.frame_verdict.Reads as frame-verdict-reads

pub frame_verdict_only : (κs : Lfts 2) (a : Dens κs frame-verdict.ps) (x y : (res_t frame-verdict.r κs).Denot) (s t : AtExit (ended_of 2 frame-verdict.ps frame-verdict.r) κs)
    → frame-verdict-reads.Post κs a x s → frame-verdict-reads.Post κs a y t → (x ≡ y) × (s.1.0.now ≡ t.1.0.now)
frame_verdict_only κs a x y s t p q = (p.said ∙ sym q.said, p.letter ∙ sym q.letter)
