-- The contracts of the four calls, as the source states them, admit one answer each, and one state of each of the lent lists. Assumes nothing.
use mathlib.Core.Path.{◌≡◌, ◌∙◌, sym}
use contract.Lifetimes.{Lfts}
use borrow.Fn.Kinds.{Dens, res_t, ended_of}
use denote.Triple.Clauses.{AtExit}
use Rattle.verdict.proofs.OneAnswer.{OneAnswer}
use Rattle.listing.proofs.Packing.{packed_one}
use Rattle.carray.proofs.array_verdict.Kinds as array-verdict
use Rattle.carray.proofs.array_verdict.Reads as array-verdict-reads
use Rattle.carray.proofs.array_fields.Kinds as array-fields
use Rattle.carray.proofs.array_fields.Reads as array-fields-reads
use Rattle.carray.proofs.array_address.Kinds as array-address
use Rattle.carray.proofs.array_address.Reads as array-address-reads
use Rattle.carray.proofs.array_write.Kinds as array-write
use Rattle.carray.proofs.array_write.Reads as array-write-reads

pub array_verdict_only : OneAnswer array-verdict.ps array-verdict.r array-verdict-reads.Post
array_verdict_only κs a x y s t p q = p ∙ sym q

pub array_fields_only : (κs : Lfts 2) (a : Dens κs array-fields.ps) (x y : (res_t array-fields.r κs).Denot) (s t : AtExit (ended_of 2 array-fields.ps array-fields.r) κs)
    → array-fields-reads.Post κs a x s → array-fields-reads.Post κs a y t → (x ≡ y) × (s.1.0.now ≡ t.1.0.now)
array_fields_only κs a x y s t p q = (packed_one _ _ _ (λ v m. m.said) (λ v m. m.said) x y p q, p.given.left ∙ sym q.given.left)

pub array_address_only : OneAnswer array-address.ps array-address.r array-address-reads.Post
array_address_only κs a x y s t p q = p ∙ sym q

pub array_write_only : (κs : Lfts 3) (a : Dens κs array-write.ps) (x y : (res_t array-write.r κs).Denot) (s t : AtExit (ended_of 3 array-write.ps array-write.r) κs)
    → array-write-reads.Post κs a x s → array-write-reads.Post κs a y t → (x ≡ y) × (s.1.1.1.0.now ≡ t.1.1.1.0.now)
array_write_only κs a x y s t p q = (packed_one _ _ _ (λ v m. m.said) (λ v m. m.said) x y p q, p.given.left ∙ sym q.given.left)
