-- The contracts of `unpack` and `expand`, as the source states them, admit one answer and one state of each of the lent lists. Assumes nothing.
use mathlib.Core.Path.{◌≡◌, ◌∙◌, sym}
use contract.Lifetimes.{Lfts}
use borrow.Fn.Kinds.{Dens, res_t, ended_of}
use denote.Triple.Clauses.{AtExit}
use Rattle.verdict.proofs.Answering.{said_own}
use Rattle.unpack.proofs.unpack.Kinds as unpack
use Rattle.unpack.proofs.unpack.Reads as unpack-reads
use Rattle.unpack.proofs.expand.Kinds as expand
use Rattle.unpack.proofs.expand.Reads as expand-reads

pub unpack_only : (κs : Lfts 4) (a : Dens κs unpack.ps) (x y : (res_t unpack.r κs).Denot) (s t : AtExit (ended_of 4 unpack.ps unpack.r) κs)
    → unpack-reads.Post κs a x s → unpack-reads.Post κs a y t
    → (x ≡ y) × (s.1.1.0.now ≡ t.1.1.0.now) × (s.1.1.1.0.now ≡ t.1.1.1.0.now) × (s.1.1.1.1.0.now ≡ t.1.1.1.1.0.now)
unpack_only κs a x y s t p q =
    (said_own x y (p.said ∙ sym q.said), p.left_deviations ∙ sym q.left_deviations, p.left_coefficients ∙ sym q.left_coefficients, p.left_marks ∙ sym q.left_marks)

pub expand_only : (κs : Lfts 3) (a : Dens κs expand.ps) (x y : (res_t expand.r κs).Denot) (s t : AtExit (ended_of 3 expand.ps expand.r) κs)
    → expand-reads.Post κs a x s → expand-reads.Post κs a y t
    → (x ≡ y) × (s.1.1.0.now ≡ t.1.1.0.now) × (s.1.1.1.0.now ≡ t.1.1.1.0.now)
expand_only κs a x y s t p q = (said_own x y (p.said ∙ sym q.said), p.left_words ∙ sym q.left_words, p.left_marks ∙ sym q.left_marks)
