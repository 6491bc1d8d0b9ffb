-- The contract of each public function, as the source states it, admits one answer. Assumes nothing.
use mathlib.Core.Path.{◌∙◌, sym}
use Rattle.verdict.proofs.OneAnswer.{OneAnswer}
use Rattle.matrixhead.proofs.begin.Kinds as begin
use Rattle.matrixhead.proofs.begin.Reads as begin-reads
use Rattle.matrixhead.proofs.judge.judge_fields.Kinds as judge-fields
use Rattle.matrixhead.proofs.judge.judge_fields.Reads as judge-fields-reads

pub begin_only : OneAnswer begin.ps begin.r begin-reads.Post
begin_only κs a x y s t p q = p ∙ sym q

pub judge_fields_only : OneAnswer judge-fields.ps judge-fields.r judge-fields-reads.Post
judge_fields_only κs a x y s t p q = p ∙ sym q
