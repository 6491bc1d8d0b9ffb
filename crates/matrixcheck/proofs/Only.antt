-- The contract of `check`, as the source states it, admits one answer. Assumes nothing.
use mathlib.Core.Path.{◌∙◌, sym}
use Rattle.verdict.proofs.OneAnswer.{OneAnswer}
use Rattle.matrixcheck.proofs.check.check.Kinds as check
use Rattle.matrixcheck.proofs.check.check.Reads as check-reads

pub check_only : OneAnswer check.ps check.r check-reads.Post
check_only κs a x y s t p q = p ∙ sym q
