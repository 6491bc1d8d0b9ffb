-- Rules in their order: where the first ones are kept the later ones decide, and a broken one decides alone. Assumes nothing.
use Prim.Native.Nat.{ℕ, ◌≤◌, ◌<◌}
use mathlib.Core.Path.{◌≡◌, refl, sym, ap, ◌∙◌}
use mathlib.Core.Bool.{Bool, true, false, cond}
use mathlib.Core.List.{List, [], ◌∷◌, ◌++◌}
use native.Mathlib.Omega.{arith}
use borrow.Author.Tests.{lt-ltb, le-ltb}
use lib.ListN.{length, drop}
use Rattle.verdict.specs.declared.Reason.{Reason}
use Rattle.verdict.specs.declared.Reason.TheVariants.{SmallBuffer}
use Rattle.std.specs.Prelude.{Ok, Err}
use Rattle.verdict.specs.declared.Verdict.{Verdict}
use Rattle.verdict.specs.declared.Verdict.TheVariants.{Complete, Unfinished, Refused}
use Rattle.verdict.specs.Rows.{Row, Blamed}
use Rattle.verdict.specs.Judgement.{judgement}
use Rattle.verdict.specs.Writing.{put, refusing, decided, room_rows, left_by, WrittenBy}
use Rattle.verdict.proofs.Judging.{Kept}
use Rattle.verdict.proofs.Putting.{put_first}

pub judgement_kept : (rows : List Row) → judgement rows ≡ Ok tt → Kept rows
judgement_kept [] e = tt
judgement_kept (row ∷ rows) e = go row.broken refl e (judgement_kept rows)
  where
    go : (t : Bool) → row.broken ≡ t → cond t (Err row.reason) (judgement rows) ≡ Ok tt → (judgement rows ≡ Ok tt → Kept rows) → (row.broken ≡ false) × Kept rows
    go true b h f = let z : ◌≡◌ {A = ℕ} 0 1 = cc in absurd (omega arith)
    go false b h f = (b, f h)

-- rules are judged in their order: where the first are kept, the later ones decide
pub judgement_on : (rows more : List Row) → judgement rows ≡ Ok tt → judgement (rows ++ more) ≡ judgement more
judgement_on [] more e = refl
judgement_on (row ∷ rows) more e = go row.broken e (judgement_on rows more)
  where
    go : (t : Bool) → cond t (Err row.reason) (judgement rows) ≡ Ok tt → (judgement rows ≡ Ok tt → judgement (rows ++ more) ≡ judgement more) → cond t (Err row.reason) (judgement (rows ++ more)) ≡ judgement more
    go true h f = let z : ◌≡◌ {A = ℕ} 0 1 = cc in absurd (omega arith)
    go false h f = f h

pub judgement_off : (rows more : List Row) (reason : Reason) → judgement rows ≡ Err reason → judgement (rows ++ more) ≡ Err reason
judgement_off [] more reason e = let z : ◌≡◌ {A = ℕ} 0 1 = cc in absurd (omega arith)
judgement_off (row ∷ rows) more reason e = go row.broken e (judgement_off rows more reason)
  where
    go : (t : Bool) → cond t (Err row.reason) (judgement rows) ≡ Err reason → (judgement rows ≡ Err reason → judgement (rows ++ more) ≡ Err reason) → cond t (Err row.reason) (judgement (rows ++ more)) ≡ Err reason
    go true h f = h
    go false h f = f h

pub kept_judgement : (rows : List Row) → Kept rows → judgement rows ≡ Ok tt
kept_judgement [] k = refl
kept_judgement (row ∷ rows) k = rw k.0 (kept_judgement rows k.1)

pub kept_both : (rows more : List Row) → Kept rows → Kept more → Kept (rows ++ more)
kept_both [] more k l = l
kept_both (row ∷ rows) more k l = (k.0, kept_both rows more k.1 l)

pub both_kept : (rows more : List Row) → Kept (rows ++ more) → Kept rows × Kept more
both_kept [] more k = (tt, k)
both_kept (row ∷ rows) more k = let b = both_kept rows more k.1 in ((k.0, b.0), b.1)

-- ---- what a writer answers

pub decided_on : (rows more : List Row) (answer : Verdict) → Kept rows → decided (rows ++ more) answer ≡ decided more answer
unfolding decided
decided_on [] more answer k = refl
decided_on (row ∷ rows) more answer k = rw k.0 (decided_on rows more answer k.1)

pub decided_kept : (rows : List Row) (answer : Verdict) → Kept rows → decided rows answer ≡ answer
unfolding decided
decided_kept [] answer k = refl
decided_kept (row ∷ rows) answer k = rw k.0 (decided_kept rows answer k.1)

pub decided_off : (rows more : List Row) (answer : Verdict) (reason : Reason) → Blamed rows reason → decided (rows ++ more) answer ≡ refusing reason
unfolding decided Blamed
decided_off [] more answer reason b = absurd b
decided_off (row ∷ rows) more answer reason b = go row.broken b (decided_off rows more answer reason)
  where
    go : (t : Bool) → cond t (row.reason ≡ reason) (Blamed rows reason) → (Blamed rows reason → decided (rows ++ more) answer ≡ refusing reason) → cond t (refusing row.reason) (decided (rows ++ more) answer) ≡ refusing reason
    go true h f = rw h
    go false h f = f h

pub judgement_blamed : (rows : List Row) (reason : Reason) → judgement rows ≡ Err reason → Blamed rows reason
unfolding Blamed
judgement_blamed [] reason e = let z : ◌≡◌ {A = ℕ} 0 1 = cc in absurd (omega arith)
judgement_blamed (row ∷ rows) reason e = go row.broken e (judgement_blamed rows reason)
  where
    go : (t : Bool) → cond t (Err row.reason) (judgement rows) ≡ Err reason → (judgement rows ≡ Err reason → Blamed rows reason) → cond t (row.reason ≡ reason) (Blamed rows reason)
    go true h f = cc
    go false h f = f h

-- the reason of a refusal, or another
abbrev reason_or : Reason → Verdict → Reason
reason_or other (Complete n) = other
reason_or other (Unfinished n) = other
reason_or other (Refused r) = r.reason

-- what a writer refuses is blamed on a rule
pub decided_blamed : (rows : List Row) (count : ℕ) (reason : Reason) → decided rows (Complete count) ≡ refusing reason → Blamed rows reason
unfolding decided Blamed
decided_blamed [] count reason e = let z : ◌≡◌ {A = ℕ} 0 1 = cc in absurd (omega arith)
decided_blamed (row ∷ rows) count reason e = go row.broken e (decided_blamed rows count reason)
  where
    go : (t : Bool) → cond t (refusing row.reason) (decided rows (Complete count)) ≡ refusing reason → (decided rows (Complete count) ≡ refusing reason → Blamed rows reason) → cond t (row.reason ≡ reason) (Blamed rows reason)
    go true h f = ap (reason_or reason) h
    go false h f = f h

-- where a writer succeeds, all its rules are kept
decided_complete : (rows : List Row) (count n : ℕ) → decided rows (Complete count) ≡ Complete n → Kept rows × (n ≡ count)
unfolding decided
decided_complete [] count n e = (tt, cc)
decided_complete (row ∷ rows) count n e = go row.broken refl e (decided_complete rows count n)
  where
    go : (t : Bool) → row.broken ≡ t → cond t (refusing row.reason) (decided rows (Complete count)) ≡ Complete n → (decided rows (Complete count) ≡ Complete n → Kept rows × (n ≡ count)) → ((row.broken ≡ false) × Kept rows) × (n ≡ count)
    go true b h f = let z : ◌≡◌ {A = ℕ} 0 1 = cc in absurd (omega arith)
    go false b h f = let k = f h in ((b, k.0), k.1)

module _ (rows more : List Row) (bytes out : List ℕ) (place : ℕ) where
  -- behind kept rules a writer does what the later ones say
  pub written_on : (answer : Verdict) (out' : List ℕ) → Kept rows → WrittenBy more bytes out place answer out' → WrittenBy (rows ++ more) bytes out place answer out'
  written_on answer out' k w =
      let e = decided_on rows more (Complete (length bytes)) k in
      record { said = rw e w.said; left = rw e w.left }

  -- a broken rule leaves the bytes
  pub written_off : (reason : Reason) → Blamed rows reason → WrittenBy (rows ++ more) bytes out place (refusing reason) out
  written_off reason b =
      let e = decided_off rows more (Complete (length bytes)) reason b in
      record { said = rw e; left = rw e }

-- a writer that succeeds kept its rules, and its bytes stand at the place
pub written_well : (rows : List Row) (bytes out : List ℕ) (place n : ℕ) (out' : List ℕ) → WrittenBy rows bytes out place (Complete n) out' → Kept rows × ((n ≡ length bytes) × (out' ≡ put out place bytes))
written_well rows bytes out place n out' w =
    let x = decided_complete rows (length bytes) n (sym w.said) in
    (x.0, (x.1, w.left ∙ ap (λ (v : Verdict). left_by v out place bytes) (sym w.said)))

-- and at the front of the buffer
pub written_complete : (rows : List Row) (bytes out : List ℕ) (n : ℕ) (out' : List ℕ) → WrittenBy rows bytes out 0 (Complete n) out' → Kept rows × ((n ≡ length bytes) × (out' ≡ bytes ++ drop n out))
written_complete rows bytes out n out' w =
    let x = written_well rows bytes out 0 n out' w in
    (x.0, (x.1.0, x.1.1 ∙ rw (put_first out bytes, x.1.0)))

-- a writer whose rules are kept succeeds
pub kept_written : (rows : List Row) (bytes out : List ℕ) (answer : Verdict) (out' : List ℕ) → Kept rows → WrittenBy rows bytes out 0 answer out' → (answer ≡ Complete (length bytes)) × (out' ≡ bytes ++ drop (length bytes) out)
kept_written rows bytes out answer out' k w =
    let e = decided_kept rows (Complete (length bytes)) k in
    (w.said ∙ e, w.left ∙ rw e (put_first out bytes))

-- ---- the rule of room

module _ (bytes out : List ℕ) (place there : ℕ) where
  pub room_missing : there < length bytes → WrittenBy (room_rows (length bytes) there) bytes out place (refusing SmallBuffer) out
  unfolding decided
  room_missing h = let e = lt-ltb there (length bytes) h in record { said = rw e; left = rw e }

  pub room_enough : (n : ℕ) (out' : List ℕ) → length bytes ≤ there → n ≡ length bytes → out' ≡ put out place bytes → WrittenBy (room_rows (length bytes) there) bytes out place (Complete n) out'
  unfolding decided
  room_enough n out' h l e = let t = le-ltb there (length bytes) h in record { said = rw t (ap Complete l); left = rw t e }

  -- with room a writer succeeds
  pub room_put : (answer : Verdict) (out' : List ℕ) → length bytes ≤ there → WrittenBy (room_rows (length bytes) there) bytes out place answer out' → (answer ≡ Complete (length bytes)) × (out' ≡ put out place bytes)
  unfolding decided
  room_put answer out' h w =
      let t : decided (room_rows (length bytes) there) (Complete (length bytes)) ≡ Complete (length bytes) = rw (le-ltb there (length bytes) h) in
      (w.said ∙ t, w.left ∙ ap (λ (v : Verdict). left_by v out place bytes) t)
