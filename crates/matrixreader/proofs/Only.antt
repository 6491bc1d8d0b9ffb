-- The contract of each public function, as the source states it, admits one answer. Assumes nothing.
use mathlib.Core.Path.{◌∙◌, sym}
use Rattle.verdict.proofs.OneAnswer.{OneAnswer}
use Rattle.matrixreader.proofs.verdict.Kinds as verdict
use Rattle.matrixreader.proofs.verdict.Reads as verdict-reads
use Rattle.matrixreader.proofs.read.Kinds as read
use Rattle.matrixreader.proofs.read.Reads as read-reads

pub verdict_only : OneAnswer verdict.ps verdict.r verdict-reads.Post
verdict_only κs a x y s t p q = p ∙ sym q

pub read_only : OneAnswer read.ps read.r read-reads.Post
read_only κs a x y s t p q = p ∙ sym q
