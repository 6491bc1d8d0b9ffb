-- What the answer to fields that a writer is given tells of their rules. Assumes nothing.
use Prim.Native.Nat.{ℕ}
use mathlib.Core.Path.{◌≡◌, refl, sym, ap, ◌∙◌}
use mathlib.Core.List.{List, ◌++◌}
use Rattle.std.specs.Prelude.{Result, Ok, Err}
use Rattle.verdict.specs.declared.Reason.{Reason}
use Rattle.verdict.specs.declared.Refusal.{Refusal}
use Rattle.verdict.specs.declared.Stop.{Stop}
use Rattle.verdict.specs.declared.Stop.TheVariants.{Refused as StopRefused}
use Rattle.verdict.specs.Rows.{Row}
use Rattle.verdict.specs.Judgement.{judgement}
use Rattle.verdict.proofs.Deciding.{judgement_on, judgement_off}
use Rattle.std.specs.Result.{IsErrAnd}
use Rattle.matrixhead.specs.Judging.{allowed_by, judged_at}

pub allowed_kept : (judged : Result Unit Reason) → allowed_by judged ≡ Ok tt → judged ≡ Ok tt
allowed_kept (Ok tt) e = refl
allowed_kept (Err reason) e = cc

pub allowed_broken : (judged : Result Unit Reason) (refusal : Refusal) → allowed_by judged ≡ Err refusal → (reason : Reason) × (judged ≡ Err reason) × (refusal ≡ record { reason = reason; place = 0 })
allowed_broken (Ok tt) refusal e = cc
allowed_broken (Err reason) refusal e = (reason, refl, cc)

-- ---- what `?` makes of a judgement

-- an error is passed on
pub passed_on : {A E : Type 0} (answer : Result A E) (error : E) → IsErrAnd answer (λ e. e ≡ error) → answer ≡ Err error
passed_on (Ok value) error x = absurd x
passed_on (Err e) error x = ap Err x

-- kept rules leave what is judged to the later ones
pub judged_on : (rows more : List Row) (kept : Unit) → Ok kept ≡ judgement rows → judgement (rows ++ more) ≡ judgement more
judged_on rows more kept e = judgement_on rows more (sym e)

-- and a broken one decides
pub judged_off : (rows more : List Row) (reason : Reason) (answer : Result Unit Reason) → Err reason ≡ judgement rows → IsErrAnd answer (λ r. r ≡ reason) → answer ≡ judgement (rows ++ more)
judged_off rows more reason answer e x = passed_on answer reason x ∙ sym (judgement_off rows more reason (sym e))

-- what is judged of the byte at a place
module _ (rows : List Row) (judged : Result Unit Reason) (place : ℕ) (is : judged ≡ judgement rows) where
  pub at_kept : (kept : Unit) → Ok kept ≡ judged_at judged place → judgement rows ≡ Ok tt
  at_kept kept e = by judged is e
    where
      by : (j : Result Unit Reason) → j ≡ judgement rows → Ok kept ≡ judged_at j place → judgement rows ≡ Ok tt
      by (Ok tt) is e = sym is
      by (Err reason) is e = cc

  pub at_broken : {A : Type 0} (answer : Result A Stop) (stop : Stop) → Err stop ≡ judged_at judged place → IsErrAnd answer (λ s. s ≡ stop)
      → (reason : Reason) × (judgement rows ≡ Err reason) × (answer ≡ Err (StopRefused (record { reason = reason; place = place })))
  at_broken {A = A} answer stop e x = by judged is e answer x
    where
      by : (j : Result Unit Reason) → j ≡ judgement rows → Err stop ≡ judged_at j place → (r : Result A Stop) → IsErrAnd r (λ s. s ≡ stop)
          → (reason : Reason) × (judgement rows ≡ Err reason) × (r ≡ Err (StopRefused (record { reason = reason; place = place })))
      by (Ok tt) is e r x = cc
      by (Err reason) is e (Ok value) x = absurd x
      by (Err reason) is e (Err s) x = (reason, sym is, cc)
