-- What a judge answers of a byte is what the machine does with it, and where the machine refuses behind a move. Assumes nothing.
use Prim.Native.Nat.{ℕ, ◌-◌, ◌≤◌}
use mathlib.Core.Path.{◌≡◌, refl}
use mathlib.Core.Bool.{Bool, true, false, cond}
use mathlib.Core.List.{List, [], ◌∷◌}
use native.Mathlib.Omega.{arith}
use Rattle.verdict.specs.Rows.{Row, judged}
use Rattle.verdict.proofs.Judging.{judged_kept}
use Rattle.verdict.proofs.Deciding.{judgement_kept}
use Rattle.verdict.proofs.Beginnings.{complete_refused, refused_behind}
use Rattle.verdict.specs.declared.Reason.{Reason}
use Rattle.verdict.specs.declared.Refusal.{Refusal}
use Rattle.verdict.specs.declared.Verdict.TheVariants.{Refused}
use Rattle.verdict.specs.Machine.{Move, on, bad}
use Rattle.verdict.specs.Reaching.{led}
use Rattle.std.specs.Prelude.{Ok, Err}
use Rattle.verdict.specs.Judgement.{judgement}
use Rattle.matrix.specs.Machine.{State, word, Run, enter, step, least}
use Rattle.matrix.specs.Reached.{verdict_at, verdict_behind}
use Rattle.matrix.proofs.Reasons.{enter_word_lem}

judged_broken : (rows : List Row) (next : Move State) (reason : Reason) → judgement rows ≡ Err reason → judged rows next ≡ bad reason
unfolding judged
judged_broken [] next reason e = let z : ◌≡◌ {A = ℕ} 0 1 = cc in absurd (omega arith)
judged_broken (row ∷ rows) next reason e = go row.broken e (judged_broken rows next reason)
  where
    go : (t : Bool) → cond t (Err row.reason) (judgement rows) ≡ Err reason → (judgement rows ≡ Err reason → judged rows next ≡ bad reason) → cond t (bad row.reason) (judged rows next) ≡ bad reason
    go true h f = cc
    go false h f = f h

-- a move to a state leads on from it
pub behind_on : (s : State) (bytes : List ℕ) (place : ℕ) → verdict_behind (on s) bytes place ≡ verdict_at s bytes place
unfolding led
behind_on s bytes place = refl

module _ (rows : List Row) (next : Move State) (bytes : List ℕ) (place : ℕ) where
  pub behind_kept : judgement rows ≡ Ok tt → verdict_behind (judged rows next) bytes place ≡ verdict_behind next bytes place
  behind_kept e = rw (judged_kept rows next (judgement_kept rows e))

  pub behind_broken : (reason : Reason) → judgement rows ≡ Err reason → verdict_behind (judged rows next) bytes place ≡ Refused (record { reason = reason; place = place - 1 })
  unfolding led
  behind_broken reason e = rw (judged_broken rows next reason e)

-- into words nothing is refused before their place
pub words_refused : (runs : List Run) (bytes : List ℕ) (place : ℕ) (r : Refusal) → verdict_behind (enter runs) bytes place ≡ Refused r → place ≤ r.place
unfolding led
words_refused runs bytes place r =
    enter_word_lem (λ (m : Move State). verdict_behind m bytes place ≡ Refused r → place ≤ r.place) (λ e. absurd (complete_refused e))
    (λ more sign top run rest e. refused_behind step least (word more sign top run rest) bytes place r e) runs
