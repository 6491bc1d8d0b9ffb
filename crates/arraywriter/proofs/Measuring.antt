-- The sizes in turn: what each one does to the product of those before it, and what is known where all keep their rules. Assumes nothing.
use Prim.Native.Nat.{ℕ, zero, suc, ◌*◌, ◌/◌, ◌≤◌, ◌<◌}
use mathlib.Core.Path.{◌≡◌, refl, sym, ap, ◌∙◌}
use mathlib.Core.Bool.{Bool, true, false, cond}
use mathlib.Core.List.{List, [], ◌∷◌}
use native.Mathlib.Omega.{arith}
use native.Mathlib.Nat.{mul_assoc, mul_comm, mul-one, mul-pos, div-lt_iff_lt-mul, le-mul_of_pos_right}
use borrow.Author.Tests.{eq-eqb, ne_eqb, lt-ltb, le-ltb, eqb-false, ltb-false}
use lib.ListN.{length, drop, get_or, drop_of_length-le}
use lib.Seq.{drop-cons}
use Rattle.verdict.specs.declared.Reason.{Reason}
use Rattle.verdict.specs.declared.Reason.TheVariants.{Zero, TooLarge}
use Rattle.std.specs.Prelude.{Ok, Err}
use Rattle.verdict.specs.Rows.{Row}
use Rattle.verdict.specs.Judgement.{judgement}
use Rattle.verdict.proofs.Judging.{Kept}
use Rattle.array.specs.Meaning.{product, most}
use Rattle.array.proofs.Keeping.{limit_product}
use Rattle.arraywriter.specs.Given.{size_rows}
use Rattle.arraywriter.specs.Checking.{measured_of}

pub not_nought : (n : ℕ) → (n ≡ 0 → ⊥) → 1 ≤ n
not_nought zero e = absurd (e refl)
not_nought (suc n) e = omega arith

-- the limit is passed where the quotient is
pub limit_passed : (before size : ℕ) → 1 ≤ before → most / before < size → most < before * size
limit_passed before size h l = rw (mul_comm before size) ((div-lt_iff_lt-mul {k = before} {x = most} {y = size} h).0 l)

-- ---- the loop over the sizes

-- the first `i` sizes keep their rules, and their product is `elements`
pub record MeasuredTo (sizes : List ℕ) (elements i : ℕ) : Type 0 where
  pub least : 1 ≤ elements
  pub limited : elements ≤ most
  pub whole : elements * product (drop i sizes) ≡ product sizes
  pub leads : measured_of (size_rows 1 sizes) (product sizes) ≡ measured_of (size_rows elements (drop i sizes)) (product sizes)

module _ (sizes : List ℕ) where
  module _ (elements i : ℕ) (m : MeasuredTo sizes elements i) where
    pub measured_all : length sizes ≤ i → measured_of (size_rows 1 sizes) (product sizes) ≡ Ok elements
    unfolding product size_rows
    measured_all h =
        let none = drop_of_length-le sizes h in
        let e : elements * product [] ≡ product sizes = rw none at m.whole in
        m.leads ∙ rw none (ap (λ (n : ℕ). Ok n) (sym e ∙ mul-one elements))

    module _ (inside : i < length sizes) where
      pub measured_zero : get_or sizes i 0 ≡ 0 → measured_of (size_rows 1 sizes) (product sizes) ≡ Err Zero
      unfolding size_rows
      measured_zero z = m.leads ∙ rw (drop-cons sizes i 0 inside, eq-eqb (get_or sizes i 0) 0 z)

      pub measured_large : (get_or sizes i 0 ≡ 0 → ⊥) → most / elements < get_or sizes i 0 → measured_of (size_rows 1 sizes) (product sizes) ≡ Err TooLarge
      unfolding size_rows
      measured_large z h =
          m.leads
          ∙ rw (drop-cons sizes i 0 inside, ne_eqb (get_or sizes i 0) 0 z, lt-ltb most (elements * get_or sizes i 0) (limit_passed elements (get_or sizes i 0) m.least h))

      pub measured_more : (get_or sizes i 0 ≡ 0 → ⊥) → get_or sizes i 0 ≤ most / elements → MeasuredTo sizes (elements * get_or sizes i 0) (suc i)
      unfolding size_rows product
      measured_more z h =
          let size = get_or sizes i 0 in
          let within = limit_product elements size m.least h in
          record {
            least = mul-pos m.least (not_nought size z);
            limited = within;
            whole = mul_assoc elements size (product (drop (suc i) sizes)) ∙ rw (drop-cons sizes i 0 inside) at m.whole;
            leads = m.leads ∙ rw (drop-cons sizes i 0 inside, ne_eqb size 0 z, le-ltb most (elements * size) within);
          }

-- ---- what the product's answer says

-- a product comes where the rules are kept
pub product_kept : (rows : List Row) (p q : ℕ) → measured_of rows p ≡ Ok q → Kept rows × (q ≡ p)
product_kept [] p q e = (tt, cc)
product_kept (row ∷ rows) p q e = go row.broken refl e (product_kept rows p q)
  where
    go : (t : Bool) → row.broken ≡ t → cond t (Err row.reason) (measured_of rows p) ≡ Ok q → (measured_of rows p ≡ Ok q → Kept rows × (q ≡ p)) → ((row.broken ≡ false) × Kept rows) × (q ≡ p)
    go true b h f = let z : ◌≡◌ {A = ℕ} 0 1 = cc in absurd (omega arith)
    go false b h f = ((b, (f h).0), (f h).1)

-- a reason is that of the first broken rule
pub broken_judged : (rows : List Row) (p : ℕ) (reason : Reason) → measured_of rows p ≡ Err reason → judgement rows ≡ Err reason
broken_judged [] p reason e = let z : ◌≡◌ {A = ℕ} 0 1 = cc in absurd (omega arith)
broken_judged (row ∷ rows) p reason e = go row.broken e (broken_judged rows p reason)
  where
    go : (t : Bool) → cond t (Err row.reason) (measured_of rows p) ≡ Err reason → (measured_of rows p ≡ Err reason → judgement rows ≡ Err reason) → cond t (Err row.reason) (judgement rows) ≡ Err reason
    go true h f = cc
    go false h f = f h

-- ---- sizes that keep their rules

pub sizes_least : (before : ℕ) (sizes : List ℕ) → Kept (size_rows before sizes) → (i : ℕ) → i < length sizes → 1 ≤ get_or sizes i 0
unfolding size_rows
sizes_least before [] k i h = absurd (omega arith)
sizes_least before (size ∷ sizes) k zero h = not_nought size (eqb-false size 0 k.0)
sizes_least before (size ∷ sizes) k (suc i) h = sizes_least (before * size) sizes k.1.1 i (omega arith)

pub sizes_most : (before : ℕ) (sizes : List ℕ) → 1 ≤ before → before ≤ most → Kept (size_rows before sizes) → (1 ≤ before * product sizes) × (before * product sizes ≤ most)
unfolding size_rows product
sizes_most before [] b l k = omega (arith, mul-one before)
sizes_most before (size ∷ sizes) b l k =
    rw (← mul_assoc before size (product sizes))
    (sizes_most (before * size) sizes (mul-pos b (not_nought size (eqb-false size 0 k.0))) (ltb-false most (before * size) k.1.0) k.1.1)

pub product_least : (sizes : List ℕ) → ((i : ℕ) → i < length sizes → 1 ≤ get_or sizes i 0) → 1 ≤ product sizes
unfolding product
product_least [] p = omega arith
product_least (size ∷ sizes) p = mul-pos (p 0 (omega arith)) (product_least sizes (λ i h. p (suc i) (omega arith)))

pub sizes_kept : (before : ℕ) (sizes : List ℕ) → ((i : ℕ) → i < length sizes → 1 ≤ get_or sizes i 0) → before * product sizes ≤ most → Kept (size_rows before sizes)
unfolding size_rows product
sizes_kept before [] p h = tt
sizes_kept before (size ∷ sizes) p h =
    let some : (i : ℕ) → i < length sizes → 1 ≤ get_or sizes i 0 = λ i l. p (suc i) (omega arith) in
    let e = mul_assoc before size (product sizes) in
    let within : before * size ≤ most = omega (arith, e, le-mul_of_pos_right {m = product sizes} (before * size) (product_least sizes some)) in
    let one : 1 ≤ size = p 0 (omega arith) in
    (ne_eqb size 0 (λ z. omega arith), (le-ltb most (before * size) within, sizes_kept (before * size) sizes some (omega arith)))
