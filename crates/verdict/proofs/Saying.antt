-- What follows from what a verdict says, for any set of packs: at most one is said, complete and refused stay, a later verdict is one on the whole. Assumes nothing.
use Prim.Native.Nat.{ℕ, zero, suc, ◌+◌, ◌-◌, ◌≤◌, ◌<◌}
use mathlib.Core.Path.{◌≡◌, sym, ap, ◌∙◌, subst}
use mathlib.Core.Logic.{◌↔◌}
use mathlib.Core.List.{List, [], ◌∷◌, ◌++◌, append_assoc}
use native.Mathlib.Nat.{le_antisymm, le_of_suc-le-suc, lt_of_not-le}
use native.Mathlib.Omega.{arith}
use lib.ListN.{length, take, drop, length-append, take-append-drop}
use lib.Seq.{take-append-le, take-add}
use Rattle.verdict.specs.declared.Reason.{Reason}
use Rattle.verdict.specs.declared.Refusal.{Refusal}
use Rattle.verdict.specs.declared.Verdict.{Verdict}
use Rattle.verdict.specs.declared.Verdict.TheVariants.{Complete, Unfinished, Refused}
use Rattle.verdict.specs.Says.{NoneWithin, CompleteAt, UnfinishedBy, RefusedAt, Says, OneReason}
use Rattle.verdict.specs.Machine.{shift}

not_above : {n m : ℕ} → (m < n → ⊥) → n ≤ m
not_above f = le_of_suc-le-suc (lt_of_not-le f)

-- a beginning of the bytes, taken apart at a place within it
apart : (bs : List ℕ) {i n : ℕ} → i ≤ n → take n bs ≡ take i bs ++ take (n - i) (drop i bs)
apart bs {i} {n} h = let e : n ≡ i + (n - i) = omega arith in ap (λ (k : ℕ). take k bs) e ∙ take-add i (n - i) bs

-- bytes that a pack begins with, taken apart at a place within them
begun : (Pack : List ℕ → Type 0) (bs : List ℕ) {i n : ℕ} (t : List ℕ) → i ≤ n → Pack (take n bs ++ t) → Pack (take i bs ++ (take (n - i) (drop i bs) ++ t))
begun Pack bs {i} {n} t h p = subst Pack (ap (λ (l : List ℕ). l ++ t) (apart bs h) ∙ append_assoc (take i bs) (take (n - i) (drop i bs)) t) p

module _ (Pack : List ℕ → Type 0) (Why : List ℕ → Reason → Type 0) (bs : List ℕ) where
  complete_one : {n m : ℕ} → CompleteAt Pack bs n → CompleteAt Pack bs m → n ≡ m
  complete_one {n} {m} x y = le_antisymm (not_above λ l. x.first m l y.pack) (not_above λ l. y.first n l x.pack)

  unfinished_one : {n m : ℕ} → UnfinishedBy Pack bs n → UnfinishedBy Pack bs m → n ≡ m
  unfinished_one x y = omega (arith, x.fewest y.ending y.finished, y.fewest x.ending x.finished, x.ending_count, y.ending_count)

  refused_place : {r q : Reason} {i j : ℕ} → RefusedAt Pack Why bs r i → RefusedAt Pack Why bs q j → i < j → ⊥
  refused_place x y l = x.hopeless _ (begun Pack bs y.ending l y.before)

  refused_one : OneReason Why → (r q : Refusal) → RefusedAt Pack Why bs r.reason r.place → RefusedAt Pack Why bs q.reason q.place → r ≡ q
  refused_one one r q x y =
      let e : r.place ≡ q.place = le_antisymm (not_above (refused_place y x)) (not_above (refused_place x y)) in
      let w : Why (take (suc q.place) bs) r.reason = subst (λ (p : ℕ). Why (take (suc p) bs) r.reason) e x.why in
      λ i. record { reason = one (take (suc q.place) bs) r.reason q.reason w y.why i; place = e i }

  complete_not_unfinished : {n m : ℕ} → CompleteAt Pack bs n → UnfinishedBy Pack bs m → ⊥
  complete_not_unfinished {n} x y = y.none n (omega (arith, x.within)) x.pack

  complete_not_refused : {n p : ℕ} {r : Reason} → CompleteAt Pack bs n → RefusedAt Pack Why bs r p → ⊥
  complete_not_refused {n} {p} x y =
      y.none n (not_above λ l. y.hopeless (take (n - suc p) (drop (suc p) bs)) (subst Pack (apart bs (le_of_suc-le-suc l)) x.pack)) x.pack

  unfinished_not_refused : {m p : ℕ} {r : Reason} → UnfinishedBy Pack bs m → RefusedAt Pack Why bs r p → ⊥
  unfinished_not_refused {m} {p} x y =
      let e : bs ++ x.ending ≡ take (suc p) bs ++ (drop (suc p) bs ++ x.ending) =
      ap (λ (l : List ℕ). l ++ x.ending) (sym (take-append-drop (suc p) bs)) ∙ append_assoc (take (suc p) bs) (drop (suc p) bs) x.ending in
      y.hopeless (drop (suc p) bs ++ x.ending) (subst Pack e x.finished)

  -- at most one verdict is said
  pub says_one : OneReason Why → (u v : Verdict) → Says Pack Why bs u → Says Pack Why bs v → u ≡ v
  says_one one (Complete n) (Complete m) x y = ap Complete (complete_one x y)
  says_one one (Complete n) (Unfinished m) x y = absurd (complete_not_unfinished x y)
  says_one one (Complete n) (Refused q) x y = absurd (complete_not_refused x y)
  says_one one (Unfinished n) (Complete m) x y = absurd (complete_not_unfinished y x)
  says_one one (Unfinished n) (Unfinished m) x y = ap Unfinished (unfinished_one x y)
  says_one one (Unfinished n) (Refused q) x y = absurd (unfinished_not_refused x y)
  says_one one (Refused r) (Complete m) x y = absurd (complete_not_refused y x)
  says_one one (Refused r) (Unfinished m) x y = absurd (unfinished_not_refused y x)
  says_one one (Refused r) (Refused q) x y = ap Refused (refused_one one r q x y)

  none_stays : (t : List ℕ) {n : ℕ} → n ≤ suc (length bs) → NoneWithin Pack bs n → NoneWithin Pack (bs ++ t) n
  none_stays t h none k l p = none k l (rw (take-append-le k bs t (omega arith)) at p)

  -- complete stays, whatever is appended
  pub complete_stays : (t : List ℕ) (n : ℕ) → Says Pack Why bs (Complete n) → Says Pack Why (bs ++ t) (Complete n)
  complete_stays t n x =
      record {
        within = omega (arith, x.within, length-append bs t);
        pack = rw (take-append-le n bs t x.within) x.pack;
        first = none_stays t (omega (arith, x.within)) x.first;
      }

  -- refused stays, whatever is appended
  pub refused_stays : (t : List ℕ) (r : Refusal) → Says Pack Why bs (Refused r) → Says Pack Why (bs ++ t) (Refused r)
  refused_stays t r x =
      let e : take (suc r.place) (bs ++ t) ≡ take (suc r.place) bs = take-append-le (suc r.place) bs t x.within in
      record {
        within = omega (arith, x.within, length-append bs t);
        ending = x.ending;
        before = rw (take-append-le r.place bs t (omega (arith, x.within))) x.before;
        hopeless = rw e x.hopeless;
        none = none_stays t (omega (arith, x.within)) x.none;
        why = rw e x.why;
      }

-- the same packs and the same reasons have the same verdicts
pub says_same : (Pack Pack' : List ℕ → Type 0) (Why Why' : List ℕ → Reason → Type 0) → ((w : List ℕ) → Pack w ↔ Pack' w) → ((w : List ℕ) (r : Reason) → Why w r → Why' w r)
    → (bs : List ℕ) (v : Verdict) → Says Pack Why bs v → Says Pack' Why' bs v
says_same Pack Pack' Why Why' e f bs (Complete n) x =
    record { within = x.within; pack = (e (take n bs)).0 x.pack; first = λ k l p. x.first k l ((e (take k bs)).1 p) }
says_same Pack Pack' Why Why' e f bs (Unfinished m) x =
    record {
      ending = x.ending;
      ending_count = x.ending_count;
      finished = (e (bs ++ x.ending)).0 x.finished;
      fewest = λ t p. x.fewest t ((e (bs ++ t)).1 p);
      none = λ k l p. x.none k l ((e (take k bs)).1 p);
    }
says_same Pack Pack' Why Why' e f bs (Refused r) x =
    record {
      within = x.within;
      ending = x.ending;
      before = (e (take r.place bs ++ x.ending)).0 x.before;
      hopeless = λ t p. x.hopeless t ((e (take (suc r.place) bs ++ t)).1 p);
      none = λ k l p. x.none k l ((e (take k bs)).1 p);
      why = f (take (suc r.place) bs) r.reason x.why;
    }

none_later : (Pack : List ℕ → Type 0) → (Pack [] → ⊥) → (b : ℕ) (bs : List ℕ) {n : ℕ} → NoneWithin (λ w. Pack (b ∷ w)) bs n → NoneWithin Pack (b ∷ bs) (suc n)
none_later Pack none b bs f zero l p = none p
none_later Pack none b bs f (suc k) l p = f k (le_of_suc-le-suc l) p

-- a verdict on what follows a byte is one on the whole, a place later
pub says_later : (Pack : List ℕ → Type 0) (Why : List ℕ → Reason → Type 0) → (Pack [] → ⊥) → (b : ℕ) (bs : List ℕ) (v : Verdict)
    → Says (λ w. Pack (b ∷ w)) (λ w. Why (b ∷ w)) bs v → Says Pack Why (b ∷ bs) (shift 1 v)
says_later Pack Why none b bs (Complete n) x =
    let e : 1 + n ≡ suc n = omega arith in
    rw e (record { within = omega (arith, x.within); pack = x.pack; first = none_later Pack none b bs x.first })
says_later Pack Why none b bs (Unfinished m) x =
    record { ending = x.ending; ending_count = x.ending_count; finished = x.finished; fewest = x.fewest; none = none_later Pack none b bs x.none }
says_later Pack Why none b bs (Refused r) x =
    let e : 1 + r.place ≡ suc r.place = omega arith in
    subst (RefusedAt Pack Why (b ∷ bs) r.reason) (sym e)
    (record {
      within = omega (arith, x.within);
      ending = x.ending;
      before = x.before;
      hopeless = x.hopeless;
      none = none_later Pack none b bs x.none;
      why = x.why;
    })
