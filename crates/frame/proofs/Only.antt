-- The contract of the public function, as the source states it, admits one answer. Assumes nothing.
use mathlib.Core.Path.{◌∙◌, sym}
use Rattle.verdict.proofs.OneAnswer.{OneAnswer}
use Rattle.frame.proofs.examine.examine.Kinds as examine
use Rattle.frame.proofs.examine.examine.Reads as examine-reads

pub examine_only : OneAnswer examine.ps examine.r examine-reads.Post
examine_only κs a x y s t p q = p ∙ sym q
