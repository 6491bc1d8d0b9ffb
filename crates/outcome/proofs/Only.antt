-- The contracts of the public functions, as the source states them, admit one answer each. Assumes nothing.
use mathlib.Core.Path.{◌∙◌, sym}
use Rattle.verdict.proofs.OneAnswer.{OneAnswer}
use Rattle.outcome.proofs.Kind.refuse.Kinds as refuse
use Rattle.outcome.proofs.Kind.refuse.Reads as refuse-reads
use Rattle.outcome.proofs.U8FromKind.from.Kinds as letter-of
use Rattle.outcome.proofs.U8FromKind.from.Reads as letter-of-reads

pub refuse_only : OneAnswer refuse.ps refuse.r refuse-reads.Post
refuse_only κs a x y s t p q = p ∙ sym q

pub letter_of_only : OneAnswer letter-of.ps letter-of.r letter-of-reads.Post
letter_of_only κs a x y s t p q = p ∙ sym q
