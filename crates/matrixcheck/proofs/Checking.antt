-- What checking rules in their order answers: the first broken one's reason, or that all are kept. Assumes nothing.
use Prim.Native.Nat.{ℕ}
use mathlib.Core.Path.{◌≡◌, refl, ap}
use mathlib.Core.Bool.{Bool, true, false, not, ◌&&◌, cond}
use mathlib.Core.List.{List, [], ◌∷◌, ◌++◌}
use native.Mathlib.Omega.{arith}
use lib.Dec.{eqb}
use lib.ListN.{take}
use Rattle.verdict.specs.declared.Reason.{Reason}
use Rattle.verdict.specs.declared.Refusal.{Refusal}
use Rattle.verdict.specs.declared.Reason.TheVariants.{ValueRange}
use Rattle.verdict.specs.Rows.{Row, Blamed}
use Rattle.verdict.proofs.Judging.{Kept}
use Rattle.rule.specs.Rules.{rule_of_deviations, rule_of_coefficients}
use Rattle.matrix.specs.declared.Fields.{Fields}
use Rattle.matrix.specs.Meaning.{pairs, sum}
use Rattle.std.specs.Prelude.{Result, Ok, Err}
use Rattle.std.specs.Result.{IsErrAnd}
use Rattle.matrixcheck.specs.Checking.{refused_for, checked_of, judged_of}
use Rattle.matrixcheck.specs.Given.{deviation_marks, sent_fit, value_rows}

-- behind kept rules the later ones decide
pub checked_on : (rows more : List Row) (sent : ℕ) → Kept rows → checked_of (rows ++ more) sent ≡ checked_of more sent
checked_on [] more sent k = refl
checked_on (row ∷ rows) more sent k = rw k.0 (checked_on rows more sent k.1)

-- a broken rule decides alone
pub checked_off : (rows more : List Row) (sent : ℕ) (reason : Reason) → Blamed rows reason → checked_of (rows ++ more) sent ≡ refused_for reason
unfolding Blamed
checked_off [] more sent reason b = absurd b
checked_off (row ∷ rows) more sent reason b = go row.broken b (checked_off rows more sent reason)
  where
    go : (t : Bool) → cond t (row.reason ≡ reason) (Blamed rows reason) → (Blamed rows reason → checked_of (rows ++ more) sent ≡ refused_for reason) → cond t (refused_for row.reason) (checked_of (rows ++ more) sent) ≡ refused_for reason
    go true h f = rw h
    go false h f = f h

pub checked_kept : (rows : List Row) (sent s : ℕ) → checked_of rows sent ≡ Ok s → Kept rows × (s ≡ sent)
checked_kept [] sent s e = (tt, cc)
checked_kept (row ∷ rows) sent s e = go row.broken refl e (checked_kept rows sent s)
  where
    go : (t : Bool) → row.broken ≡ t → cond t (refused_for row.reason) (checked_of rows sent) ≡ Ok s → (checked_of rows sent ≡ Ok s → Kept rows × (s ≡ sent)) → ((row.broken ≡ false) × Kept rows) × (s ≡ sent)
    go true b h f = let z : ◌≡◌ {A = ℕ} 0 1 = cc in absurd (omega arith)
    go false b h f = let k = f h in ((b, k.0), k.1)

-- a refusal is the first broken rule's
pub checked_refused : (rows : List Row) (sent : ℕ) (refusal : Refusal) → checked_of rows sent ≡ Err refusal → (reason : Reason) × Blamed rows reason × (refusal ≡ record { reason = reason; place = 0 })
unfolding Blamed
checked_refused [] sent refusal e = let z : ◌≡◌ {A = ℕ} 0 1 = cc in absurd (omega arith)
checked_refused (row ∷ rows) sent refusal e = go row.broken e (checked_refused rows sent refusal)
  where
    go : (t : Bool) → cond t (refused_for row.reason) (checked_of rows sent) ≡ Err refusal → (checked_of rows sent ≡ Err refusal → (reason : Reason) × Blamed rows reason × (refusal ≡ record { reason = reason; place = 0 }))
        → (reason : Reason) × cond t (row.reason ≡ reason) (Blamed rows reason) × (refusal ≡ record { reason = reason; place = 0 })
    go true h f = (row.reason, refl, cc)
    go false h f = f h

-- what is refused for a reason, at place 0
abbrev pub placed : Result ℕ Reason → Result ℕ Refusal
placed (Ok sent) = Ok sent
placed (Err reason) = refused_for reason

pub placed_from : (answer : Result ℕ Refusal) (reason : Reason) → IsErrAnd answer (λ refusal. refusal ≡ record { reason = reason; place = 0 }) → answer ≡ placed (Err reason)
placed_from (Ok sent) reason x = absurd x
placed_from (Err refusal) reason x = ap Err x

pub checked_judged : (rows : List Row) (sent : ℕ) → checked_of rows sent ≡ placed (judged_of rows sent)
checked_judged [] sent = refl
checked_judged (row ∷ rows) sent = by row.broken (checked_judged rows sent)
  where
    by : (t : Bool) → checked_of rows sent ≡ placed (judged_of rows sent) → cond t (refused_for row.reason) (checked_of rows sent) ≡ placed (cond t (Err row.reason) (judged_of rows sent))
    by true e = refl
    by false e = e

-- ---- the rules of the lists

module _ (f : Fields) (deviations coefficients marks : List ℕ) where
  -- the values, by what the tests find
  module _ (sent : ℕ) (counted : sent ≡ sum (take (pairs f.n) marks)) where
    abbrev values : Result ℕ Reason
    values = judged_of (value_rows f deviations coefficients marks) sent

    module _ (some : f.cs && (eqb f.slen 0 && eqb sent 0) ≡ false) (fit : Bool) (tested : fit ≡ sent_fit (rule_of_deviations f.sf f.slen) (deviation_marks f) deviations) where
      pub deviations_broken : not fit ≡ true → Err ValueRange ≡ values
      deviations_broken e = rw (← counted, some, ← tested, e)

      module _ (kept : not fit ≡ false) (count : ℕ) (pairs_are : count ≡ pairs f.n) (all : Bool) (found : all ≡ sent_fit (rule_of_coefficients f.cf f.clen) (take count marks) coefficients) where
        pub coefficients_broken : not all ≡ true → Err ValueRange ≡ values
        coefficients_broken e = rw (← counted, some, ← tested, kept, ← pairs_are, ← found, e)

        pub values_kept : not all ≡ false → Ok sent ≡ values
        values_kept e = rw (← counted, some, ← tested, kept, ← pairs_are, ← found, e)
