-- The contract of the public call, as the source states it, admits one answer and one state of the lent list. Assumes nothing.
use mathlib.Core.Path.{◌≡◌, ◌∙◌, sym}
use contract.Lifetimes.{Lfts}
use borrow.Fn.Kinds.{Dens, res_t, ended_of}
use denote.Triple.Clauses.{AtExit}
use Rattle.verdict.proofs.OneAnswer.{OneAnswer}
use Rattle.verdict.proofs.Answering.{said_own}
use Rattle.listing.proofs.list.Kinds as list
use Rattle.listing.proofs.list.Reads as list-reads

pub list_only : OneAnswer list.ps list.r list-reads.Post
list_only κs a x y s t p q = said_own x y (p.said ∙ sym q.said)

pub list_leaves : (κs : Lfts 2) (a : Dens κs list.ps) (x y : (res_t list.r κs).Denot) (s t : AtExit (ended_of 2 list.ps list.r) κs)
    → list-reads.Post κs a x s → list-reads.Post κs a y t → s.1.1.0.now ≡ t.1.1.0.now
list_leaves κs a x y s t p q = p.left ∙ sym q.left
