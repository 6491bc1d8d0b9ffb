-- A byte that breaks no rule of its field makes the field's move, and any other is refused for the first rule broken. Assumes nothing.
use Prim.Native.Nat.{ℕ}
use mathlib.Core.Path.{◌≡◌, refl, sym, ap, ◌∙◌, subst}
use mathlib.Core.Bool.{Bool, true, false, ◌&&◌, ◌||◌, cond, and-false}
use mathlib.Core.Logic.{◌⊎◌, inl, inr, ⊎_elim}
use mathlib.Core.List.{List, [], ◌∷◌}
use borrow.Author.Tests.{eq-eqb}
use lib.Dec.{eqb}
use Rattle.verdict.specs.declared.Reason.{Reason}
use Rattle.verdict.specs.Machine.{Move, bad, Moved, Accepts, Blames}
use Rattle.verdict.specs.Numbers.{number_of}
use Rattle.verdict.specs.Rows.{Row, Blamed, judged}

-- no rule is broken
abbrev pub Kept : List Row → Type 0
Kept [] = Unit {0}
Kept (row ∷ rows) = (row.broken ≡ false) × Kept rows

-- a table gives at most one reason
pub one_blamed : (rows : List Row) (r q : Reason) → Blamed rows r → Blamed rows q → r ≡ q
unfolding Blamed
one_blamed [] r q x y = absurd x
one_blamed (row ∷ rows) r q x y = go row.broken x y (λ a b. one_blamed rows r q a b)
  where
    go : (t : Bool) → cond t (row.reason ≡ r) (Blamed rows r) → cond t (row.reason ≡ q) (Blamed rows q) → (Blamed rows r → Blamed rows q → r ≡ q) → r ≡ q
    go true x y ih = sym x ∙ y
    go false x y ih = ih x y

-- whether a rule with this number is broken
abbrev pub broken : ℕ → List Row → Bool
broken number [] = false
broken number (row ∷ rows) = (eqb number (number_of row.reason) && row.broken) || broken number rows

-- a reason that is blamed is that of a broken rule
pub blamed_broken : (rows : List Row) (r : Reason) → Blamed rows r → broken (number_of r) rows ≡ true
unfolding Blamed
blamed_broken [] r x = absurd x
blamed_broken (row ∷ rows) r x = go row.broken x (blamed_broken rows r)
  where
    go : (t : Bool) → cond t (row.reason ≡ r) (Blamed rows r) → (Blamed rows r → broken (number_of r) rows ≡ true) → (eqb (number_of r) (number_of row.reason) && t) || broken (number_of r) rows ≡ true
    go true e ih = rw (eq-eqb (number_of r) (number_of row.reason) (ap number_of (sym e))) refl
    go false y ih = rw (and-false (eqb (number_of r) (number_of row.reason))) (ih y)

module _ {S : Type 0} where
  pub judged_kept : (rows : List Row) (next : Move S) → Kept rows → judged rows next ≡ next
  unfolding judged
  judged_kept [] next k = refl
  judged_kept (row ∷ rows) next k = rw k.0 (judged_kept rows next k.1)

  pub judged_by : (P : Move S → Type 0) (rows : List Row) (next : Move S) → ((r : Reason) → P (bad r)) → (Kept rows → P next) → P (judged rows next)
  unfolding judged
  judged_by P [] next f g = g tt
  judged_by P (row ∷ rows) next f g = go row.broken refl (λ h. judged_by P rows next f h)
    where
      go : (t : Bool) → row.broken ≡ t → ((Kept rows → P next) → P (judged rows next)) → P (cond t (bad row.reason) (judged rows next))
      go true e ih = f row.reason
      go false e ih = ih (λ k. g (e, k))

module _ {S : Type 0} (step : S → ℕ → Move S) where
  -- behind a move the machine accepts these bytes
  abbrev pub Reaches : Move S → List ℕ → Type 0
  Reaches move w = Moved move (λ t. Accepts step t w) (w ≡ []) (λ r. ⊥)

  pub kept_reaches : (rows : List Row) (next : Move S) (w : List ℕ) → Kept rows → Reaches next w → Reaches (judged rows next) w
  kept_reaches rows next w k x = subst (λ (m : Move S). Reaches m w) (sym (judged_kept rows next k)) x

  pub reaches_kept : (rows : List Row) (next : Move S) (w : List ℕ) → Reaches (judged rows next) w → Kept rows × Reaches next w
  reaches_kept rows next w = judged_by (λ m. Reaches m w → Kept rows × Reaches next w) rows next (λ r x. absurd x) (λ k x. (k, x))

  -- a move leads to the refusal of the last of these bytes
  abbrev pub Leads : List ℕ → Reason → Move S → Type 0
  Leads w reason move = Moved move (λ t. Blames step t w reason) ⊥ (λ r. (w ≡ []) × (r ≡ reason))

  -- it is refused by its field's rules, or these are kept and it is refused behind the field's move
  pub judged_leads : (rows : List Row) (next : Move S) (w : List ℕ) (r : Reason) → Leads w r (judged rows next) → ((w ≡ []) × Blamed rows r) ⊎ (Kept rows × Leads w r next)
  unfolding judged Blamed
  judged_leads [] next w r x = inr (tt, x)
  judged_leads (row ∷ rows) next w r x = go row.broken refl x (λ y. judged_leads rows next w r y)
    where
      go : (t : Bool) → row.broken ≡ t → Leads w r (cond t (bad row.reason) (judged rows next)) → (Leads w r (judged rows next) → ((w ≡ []) × Blamed rows r) ⊎ (Kept rows × Leads w r next))
          → ((w ≡ []) × cond t (row.reason ≡ r) (Blamed rows r)) ⊎ (((row.broken ≡ false) × Kept rows) × Leads w r next)
      go true e x ih = inl x
      go false e x ih = ⊎_elim inl (λ y. inr ((e, y.0), y.1)) (ih x)
