-- The contract of each public function, as the source states it, admits one answer. Assumes nothing.
use mathlib.Core.Path.{◌∙◌, sym}
use Rattle.verdict.proofs.OneAnswer.{OneAnswer}
use Rattle.counts.proofs.pairs_of.Kinds as pairs_of
use Rattle.counts.proofs.pairs_of.Reads as pairs-of-reads
use Rattle.counts.proofs.header_bytes.Kinds as header-bytes
use Rattle.counts.proofs.header_bytes.Reads as header-bytes-reads
use Rattle.counts.proofs.vector_bytes.Kinds as vector-bytes
use Rattle.counts.proofs.vector_bytes.Reads as vector-bytes-reads
use Rattle.counts.proofs.bit_of.Kinds as bit_of
use Rattle.counts.proofs.bit_of.Reads as bit-of-reads
use Rattle.counts.proofs.mark_of.Kinds as mark_of
use Rattle.counts.proofs.mark_of.Reads as mark-of-reads

pub pairs_of_only : OneAnswer pairs_of.ps pairs_of.r pairs-of-reads.Post
pairs_of_only κs a x y s t p q = p ∙ sym q

pub header_bytes_only : OneAnswer header-bytes.ps header-bytes.r header-bytes-reads.Post
header_bytes_only κs a x y s t p q = p ∙ sym q

pub vector_bytes_only : OneAnswer vector-bytes.ps vector-bytes.r vector-bytes-reads.Post
vector_bytes_only κs a x y s t p q = p ∙ sym q

pub bit_of_only : OneAnswer bit_of.ps bit_of.r bit-of-reads.Post
bit_of_only κs a x y s t p q = p ∙ sym q

pub mark_of_only : OneAnswer mark_of.ps mark_of.r mark-of-reads.Post
mark_of_only κs a x y s t p q = p ∙ sym q
