-- The contract of the call, as the source states it, admits one answer, and one state of the lent list. Assumes nothing.
use mathlib.Core.Path.{◌≡◌, ◌∙◌, sym}
use contract.Lifetimes.{Lfts}
use borrow.Fn.Kinds.{Dens, res_t, ended_of}
use denote.Triple.Clauses.{AtExit}
use Rattle.listing.proofs.Packing.{packed_one}
use Rattle.cwords.proofs.matrix_scale.Kinds as matrix-scale
use Rattle.cwords.proofs.matrix_scale.Reads as matrix-scale-reads

pub matrix_scale_only : (κs : Lfts 2) (a : Dens κs matrix-scale.ps) (x y : (res_t matrix-scale.r κs).Denot) (s t : AtExit (ended_of 2 matrix-scale.ps matrix-scale.r) κs)
    → matrix-scale-reads.Post κs a x s → matrix-scale-reads.Post κs a y t → (x ≡ y) × (s.1.1.0.now ≡ t.1.1.0.now)
matrix_scale_only κs a x y s t p q = (packed_one _ _ _ (λ v m. m.said) (λ v m. m.said) x y p q, p.given.left ∙ sym q.given.left)
