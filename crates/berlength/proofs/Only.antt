-- The contract of the public function, as the source states it, admits one answer. Assumes nothing.
use mathlib.Core.Path.{◌∙◌, sym}
use Rattle.verdict.proofs.OneAnswer.{OneAnswer}
use Rattle.berlength.proofs.length_at.Kinds as length_at
use Rattle.berlength.proofs.length_at.Reads as length-at-reads

pub length_at_only : OneAnswer length_at.ps length_at.r length-at-reads.Post
length_at_only κs a x y s t p q = p ∙ sym q
