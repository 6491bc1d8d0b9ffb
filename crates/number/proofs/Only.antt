-- The contract of each public function, as the source states it, admits one answer. Assumes nothing.
use mathlib.Core.Path.{◌≡◌, ◌∙◌, sym}
use base.Logic.{ent}
use contract.Lifetimes.{Lfts}
use contract.Monad.{conj, conj_l, conj_r, fact, fact_i, fact_use}
use borrow.Fn.World.{World, Pr, ArgsD, ResD}
use denote.Triple.Clauses.{AtExit}
use Rattle.verdict.proofs.OneAnswer.{OneAnswer}
use Rattle.number.proofs.draw_from.Kinds as draw-from
use Rattle.number.proofs.draw_from.Reads as draw-from-reads
use Rattle.number.specs.contracts.Numbers.draw as draw
use Rattle.number.specs.contracts.Numbers.at as numbers-at

module _ (w : World) (κs : Lfts 1) where
  -- where a struct holds the slice Rattle reads no clause: the `ensures` themselves, in any model
  abbrev pub Made : ArgsD numbers-at.signature κs → ResD numbers-at.signature κs → AtExit numbers-at.ended κs → Pr w
  Made a r s = (numbers-at.clauses w.𝓛 w.𝓜.mem w.𝓡.run κs a).ensures tt r s

  abbrev pub Drew : ArgsD draw.signature κs → ResD draw.signature κs → AtExit draw.ended κs → Pr w
  Drew a r s = (draw.clauses w.𝓛 w.𝓜.mem w.𝓡.run κs a).ensures tt r s

  agreed : (φ ψ ρ : Type 0) → (φ → ψ → ρ) → ent w.𝓤 (conj w.𝓤 (fact w.𝓤 φ) (fact w.𝓤 ψ)) (fact w.𝓤 ρ)
  agreed φ ψ ρ f =
      let P = fact w.𝓤 φ in let Q = fact w.𝓤 ψ in
      fact_use w.𝓤 φ (conj_l w.𝓤 P Q) (λ x. fact_use w.𝓤 ψ (conj_r w.𝓤 P Q) (λ y. fact_i w.𝓤 ρ (conj w.𝓤 P Q) (f x y)))

  pub numbers_at_only : (a : ArgsD numbers-at.signature κs) (r t : ResD numbers-at.signature κs) (s u : AtExit numbers-at.ended κs) → ent w.𝓤 (conj w.𝓤 (Made a r s) (Made a t u)) (fact w.𝓤 (r ≡ t))
  numbers_at_only a r t s u = agreed _ _ (r ≡ t) (λ x y. x ∙ sym y)

  pub draw_only : (a : ArgsD draw.signature κs) (r t : ResD draw.signature κs) (s u : AtExit draw.ended κs) → ent w.𝓤 (conj w.𝓤 (Drew a r s) (Drew a t u)) (fact w.𝓤 (r ≡ t))
  draw_only a r t s u = agreed _ _ (r ≡ t) (λ x y. x ∙ sym y)

pub draw_from_only : OneAnswer draw-from.ps draw-from.r draw-from-reads.Post
draw_from_only κs a x y s t p q = p ∙ sym q
