-- A refusal stands whatever is appended, and where the bytes are cut behind its place. Assumes nothing.
use Prim.Native.Nat.{ℕ, zero, suc, ◌+◌, ◌≤◌, ◌<◌}
use mathlib.Core.Path.{◌≡◌, refl, ap, ◌∙◌}
use mathlib.Core.List.{List, [], ◌∷◌}
use native.Mathlib.Omega.{arith}
use lib.ListN.{take, drop}
use Rattle.verdict.specs.declared.Refusal.{Refusal}
use Rattle.verdict.specs.declared.Verdict.{Verdict}
use Rattle.verdict.specs.declared.Verdict.TheVariants.{Complete, Unfinished, Refused}
use Rattle.verdict.specs.Machine.{Move, on, done, bad, shift, follow, run}
use Rattle.verdict.specs.Reaching.{reach}

pub complete_refused : {n : ℕ} {r : Refusal} → Complete n ≡ Refused r → ⊥
complete_refused e = let z : ◌≡◌ {A = ℕ} 0 1 = cc in omega arith

pub unfinished_refused : {n : ℕ} {r : Refusal} → Unfinished n ≡ Refused r → ⊥
unfinished_refused e = let z : ◌≡◌ {A = ℕ} 0 1 = cc in omega arith

-- a refusal a place later
abbrev later : ℕ → Refusal → Refusal
later n q = record { reason = q.reason; place = n + q.place }

-- what stands n places later is refused where it is refused there
unshift : (n : ℕ) (v : Verdict) (r : Refusal) → shift n v ≡ Refused r → (q : Refusal) × (v ≡ Refused q) × (later n q ≡ r)
unshift n (Complete k) r e = absurd (complete_refused e)
unshift n (Unfinished k) r e = absurd (unfinished_refused e)
unshift n (Refused q) r e = (q, refl, inside e)
  where
    inside : {x y : Refusal} → Refused x ≡ Refused y → x ≡ y
    inside e = cc

module _ {S : Type 0} (step : S → ℕ → Move S) (least : S → ℕ) where
  -- a refusal of the first k bytes is one of all, within the k
  pub refused_on : (k : ℕ) (bytes : List ℕ) (s : S) (r : Refusal) → run step least s (take k bytes) ≡ Refused r → (run step least s bytes ≡ Refused r) × (r.place < k)
  unfolding run
  refused_on zero bytes s r e = absurd (unfinished_refused e)
  refused_on (suc k) [] s r e = absurd (unfinished_refused e)
  refused_on (suc k) (b ∷ bytes) s r e = go (step s b) e (λ t. refused_on k bytes t)
    where
      go : (m : Move S) → follow m (λ t. run step least t (take k bytes)) ≡ Refused r
          → ((t : S) (q : Refusal) → run step least t (take k bytes) ≡ Refused q → (run step least t bytes ≡ Refused q) × (q.place < k))
          → (follow m (λ t. run step least t bytes) ≡ Refused r) × (r.place < suc k)
      go (on t) e ih =
          let x = unshift 1 (run step least t (take k bytes)) r e in
          let y = ih t x.0 x.1 in
          (ap (shift 1) y.0 ∙ ap Refused x.2, omega (arith, ap (λ (q : Refusal). q.place) x.2, y.1))
      go done e ih = absurd (complete_refused e)
      go (bad why) e ih = (e, let z : r.place ≡ 0 = cc in omega arith)

  -- refused bytes are refused the same where they are cut behind the place
  pub refused_cut : (k : ℕ) (bytes : List ℕ) (s : S) (r : Refusal) → run step least s bytes ≡ Refused r → r.place < k → run step least s (take k bytes) ≡ Refused r
  unfolding run
  refused_cut zero bytes s r e h = absurd (omega arith)
  refused_cut (suc k) [] s r e h = e
  refused_cut (suc k) (b ∷ bytes) s r e h = go (step s b) e (λ t. refused_cut k bytes t)
    where
      go : (m : Move S) → follow m (λ t. run step least t bytes) ≡ Refused r
          → ((t : S) (q : Refusal) → run step least t bytes ≡ Refused q → q.place < k → run step least t (take k bytes) ≡ Refused q)
          → follow m (λ t. run step least t (take k bytes)) ≡ Refused r
      go (on t) e ih =
          let x = unshift 1 (run step least t bytes) r e in
          ap (shift 1) (ih t x.0 x.1 (omega (arith, h, ap (λ (q : Refusal). q.place) x.2))) ∙ ap Refused x.2
      go done e ih = e
      go (bad why) e ih = e

  -- from a place on nothing is refused before it
  pub refused_behind : (s : S) (bytes : List ℕ) (place : ℕ) (r : Refusal) → reach step least s bytes place ≡ Refused r → place ≤ r.place
  unfolding reach
  refused_behind s bytes place r e = let x = unshift place (run step least s (drop place bytes)) r e in omega (arith, ap (λ (q : Refusal). q.place) x.2)
