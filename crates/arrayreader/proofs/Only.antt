-- The contracts of `verdict`, `read` and `address`, as the source states them, admit one answer each. Assumes nothing.
use mathlib.Core.Path.{◌∙◌, sym}
use Rattle.verdict.proofs.OneAnswer.{OneAnswer}
use Rattle.arrayreader.proofs.verdict.Kinds as verdict
use Rattle.arrayreader.proofs.verdict.Reads as verdict-reads
use Rattle.arrayreader.proofs.read.Kinds as read
use Rattle.arrayreader.proofs.read.Reads as read-reads
use Rattle.arrayreader.proofs.address.Kinds as address
use Rattle.arrayreader.proofs.address.Reads as address-reads

pub verdict_only : OneAnswer verdict.ps verdict.r verdict-reads.Post
verdict_only κs a x y s t p q = p ∙ sym q

pub read_only : OneAnswer read.ps read.r read-reads.Post
read_only κs a x y s t p q = p ∙ sym q

pub address_only : OneAnswer address.ps address.r address-reads.Post
address_only κs a x y s t p q = p ∙ sym q
