-- The contract of `found_in`, as the source states it, admits one answer. Assumes nothing.
use mathlib.Core.Path.{◌∙◌, sym}
use Rattle.verdict.proofs.OneAnswer.{OneAnswer}
use Rattle.arraywalk.proofs.found_in.Kinds as found_in
use Rattle.arraywalk.proofs.found_in.Reads as found-in-reads

pub found_in_only : OneAnswer found_in.ps found_in.r found-in-reads.Post
found_in_only κs a x y s t p q = p ∙ sym q
