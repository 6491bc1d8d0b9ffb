-- The contracts of the five calls, as the source states them, admit one answer each, and one state of each of the lent lists. Assumes nothing.
use mathlib.Core.Path.{◌≡◌, ◌∙◌, sym}
use contract.Lifetimes.{Lfts}
use borrow.Fn.Kinds.{Dens, res_t, ended_of}
use denote.Triple.Clauses.{AtExit}
use Rattle.verdict.proofs.OneAnswer.{OneAnswer}
use Rattle.listing.proofs.Packing.{packed_one}
use Rattle.cmatrix.proofs.matrix_verdict.Kinds as matrix-verdict
use Rattle.cmatrix.proofs.matrix_verdict.Reads as matrix-verdict-reads
use Rattle.cmatrix.proofs.matrix_fields.Kinds as matrix-fields
use Rattle.cmatrix.proofs.matrix_fields.Reads as matrix-fields-reads
use Rattle.cmatrix.proofs.matrix_unpack.Kinds as matrix-unpack
use Rattle.cmatrix.proofs.matrix_unpack.Reads as matrix-unpack-reads
use Rattle.cmatrix.proofs.matrix_expand.Kinds as matrix-expand
use Rattle.cmatrix.proofs.matrix_expand.Reads as matrix-expand-reads
use Rattle.cmatrix.proofs.matrix_write.Kinds as matrix-write
use Rattle.cmatrix.proofs.matrix_write.Reads as matrix-write-reads

pub matrix_verdict_only : OneAnswer matrix-verdict.ps matrix-verdict.r matrix-verdict-reads.Post
matrix_verdict_only κs a x y s t p q = p ∙ sym q

pub matrix_fields_only : (κs : Lfts 2) (a : Dens κs matrix-fields.ps) (x y : (res_t matrix-fields.r κs).Denot) (s t : AtExit (ended_of 2 matrix-fields.ps matrix-fields.r) κs)
    → matrix-fields-reads.Post κs a x s → matrix-fields-reads.Post κs a y t → (x ≡ y) × (s.1.1.0.now ≡ t.1.1.0.now)
matrix_fields_only κs a x y s t p q = (packed_one _ _ _ (λ v m. m.said) (λ v m. m.said) x y p q, p.given.left ∙ sym q.given.left)

pub matrix_unpack_only : (κs : Lfts 4) (a : Dens κs matrix-unpack.ps) (x y : (res_t matrix-unpack.r κs).Denot) (s t : AtExit (ended_of 4 matrix-unpack.ps matrix-unpack.r) κs)
    → matrix-unpack-reads.Post κs a x s → matrix-unpack-reads.Post κs a y t
    → (x ≡ y) × (s.1.1.0.now ≡ t.1.1.0.now) × (s.1.1.1.0.now ≡ t.1.1.1.0.now) × (s.1.1.1.1.0.now ≡ t.1.1.1.1.0.now)
matrix_unpack_only κs a x y s t p q =
    (packed_one _ _ _ (λ v m. m.said) (λ v m. m.said) x y p q, p.given.left_deviations ∙ sym q.given.left_deviations, p.given.left_coefficients ∙ sym q.given.left_coefficients, p.given.left_marks ∙ sym q.given.left_marks)

pub matrix_expand_only : (κs : Lfts 3) (a : Dens κs matrix-expand.ps) (x y : (res_t matrix-expand.r κs).Denot) (s t : AtExit (ended_of 3 matrix-expand.ps matrix-expand.r) κs)
    → matrix-expand-reads.Post κs a x s → matrix-expand-reads.Post κs a y t → (x ≡ y) × (s.1.1.0.now ≡ t.1.1.0.now) × (s.1.1.1.0.now ≡ t.1.1.1.0.now)
matrix_expand_only κs a x y s t p q =
    (packed_one _ _ _ (λ v m. m.said) (λ v m. m.said) x y p q, p.given.left_words ∙ sym q.given.left_words, p.given.left_marks ∙ sym q.given.left_marks)

pub matrix_write_only : (κs : Lfts 5) (a : Dens κs matrix-write.ps) (x y : (res_t matrix-write.r κs).Denot) (s t : AtExit (ended_of 5 matrix-write.ps matrix-write.r) κs)
    → matrix-write-reads.Post κs a x s → matrix-write-reads.Post κs a y t → (x ≡ y) × (s.1.1.1.1.1.0.now ≡ t.1.1.1.1.1.0.now)
matrix_write_only κs a x y s t p q = (packed_one _ _ _ (λ v m. m.said) (λ v m. m.said) x y p q, p.given.left ∙ sym q.given.left)
