-- The contract of each public function, as the source states it, admits one answer. Assumes nothing.
use mathlib.Core.Path.{◌∙◌, sym}
use Rattle.verdict.proofs.OneAnswer.{OneAnswer}
use Rattle.verdict.proofs.U64FromReason.from.Kinds as number
use Rattle.verdict.proofs.U64FromReason.from.Reads as number-reads
use Rattle.verdict.proofs.U64FromVerdict.from.Kinds as packed
use Rattle.verdict.proofs.U64FromVerdict.from.Reads as packed-reads
use Rattle.verdict.proofs.VerdictFromReason.from.Kinds as refuse
use Rattle.verdict.proofs.VerdictFromReason.from.Reads as refuse-reads
use Rattle.verdict.proofs.RefusalFromReason.from.Kinds as refusal
use Rattle.verdict.proofs.RefusalFromReason.from.Reads as refusal-reads
use Rattle.verdict.proofs.StopFromRefusal.from.Kinds as stop
use Rattle.verdict.proofs.StopFromRefusal.from.Reads as stop-reads
use Rattle.verdict.proofs.VerdictFromStop.from.Kinds as stopped
use Rattle.verdict.proofs.VerdictFromStop.from.Reads as stopped-reads
use Rattle.verdict.proofs.VerdictFromResultUsizeStop.from.Kinds as said
use Rattle.verdict.proofs.VerdictFromResultUsizeStop.from.Reads as said-reads
use Rattle.verdict.proofs.VerdictFromResultUsizeRefusal.from.Kinds as written
use Rattle.verdict.proofs.VerdictFromResultUsizeRefusal.from.Reads as written-reads
use Rattle.verdict.proofs.Reason.at.Kinds as at
use Rattle.verdict.proofs.Reason.at.Reads as at-reads
use Rattle.verdict.proofs.lesser.Kinds as lesser
use Rattle.verdict.proofs.lesser.Reads as lesser-reads
use Rattle.verdict.proofs.from_place.Kinds as from_place
use Rattle.verdict.proofs.from_place.Reads as from-place-reads

pub number_only : OneAnswer number.ps number.r number-reads.Post
number_only κs a x y s t p q = p ∙ sym q

pub packed_only : OneAnswer packed.ps packed.r packed-reads.Post
packed_only κs a x y s t p q = p ∙ sym q

pub refuse_only : OneAnswer refuse.ps refuse.r refuse-reads.Post
refuse_only κs a x y s t p q = p ∙ sym q

pub refusal_only : OneAnswer refusal.ps refusal.r refusal-reads.Post
refusal_only κs a x y s t p q = p ∙ sym q

pub stop_only : OneAnswer stop.ps stop.r stop-reads.Post
stop_only κs a x y s t p q = p ∙ sym q

pub stopped_only : OneAnswer stopped.ps stopped.r stopped-reads.Post
stopped_only κs a x y s t p q = p ∙ sym q

pub said_only : OneAnswer said.ps said.r said-reads.Post
said_only κs a x y s t p q = p ∙ sym q

pub written_only : OneAnswer written.ps written.r written-reads.Post
written_only κs a x y s t p q = p ∙ sym q

pub at_only : OneAnswer at.ps at.r at-reads.Post
at_only κs a x y s t p q = p ∙ sym q

pub lesser_only : OneAnswer lesser.ps lesser.r lesser-reads.Post
lesser_only κs a x y s t p q = p ∙ sym q

pub from_place_only : OneAnswer from_place.ps from_place.r from-place-reads.Post
from_place_only κs a x y s t p q = p ∙ sym q
