-- What a test tells, and a test that is one of two others. Assumes nothing.
use Prim.Native.Nat.{ℕ, ◌<◌}
use mathlib.Core.Path.{◌≡◌, refl, sym}
use mathlib.Core.Bool.{Bool, true, false, ◌&&◌, ◌||◌, false≢true}
use borrow.Author.Tests.{eqb-true, eq-eqb, ltb-true, lt-ltb}
use lib.Dec.{eqb, ltb}
use Rattle.verdict.proofs.Cases.{either}

-- a test is true exactly where the claim holds
pub record Tells (t : Bool) (P : Type 0) : Type 0 where
  pub holds : t ≡ true → P
  pub finds : P → t ≡ true

pub tells_equal : (a b : ℕ) → Tells (eqb a b) (a ≡ b)
tells_equal a b = record { holds = eqb-true a b; finds = eq-eqb a b }

pub tells_less : (a b : ℕ) → Tells (ltb a b) (a < b)
tells_less a b = record { holds = ltb-true a b; finds = lt-ltb a b }

pub tells_both : {s t : Bool} {P Q : Type 0} → Tells s P → Tells t Q → Tells (s && t) (P × Q)
tells_both {s} {t} p q = record { holds = λ e. (p.holds (first s t e), q.holds (second s t e)); finds = λ x. together s t (p.finds x.0) (q.finds x.1) }
  where
    first : (s t : Bool) → s && t ≡ true → s ≡ true
    first true t e = refl
    first false t e = e

    second : (s t : Bool) → s && t ≡ true → t ≡ true
    second true t e = e
    second false t e = absurd (false≢true e)

    together : (s t : Bool) → s ≡ true → t ≡ true → s && t ≡ true
    together true t e f = f
    together false t e f = e

pub tells_always : (P : Type 0) → P → Tells true P
tells_always P x = record { holds = λ e. x; finds = λ y. refl }

-- a test of what is absurd fails
pub tells_never : {t : Bool} {P : Type 0} → Tells t P → (P → ⊥) → t ≡ false
tells_never {t} p never = fails t (λ e. never (p.holds e))
  where
    fails : (t : Bool) → (t ≡ true → ⊥) → t ≡ false
    fails true f = absurd (f refl)
    fails false f = refl

-- a test that tells one claim or the other, by a third test
pub tells_either : (t : Bool) {f g h : Bool} {P Q R : Type 0} → Tells f P → Tells g Q → Tells h R
    → (P → R) → (Q → R) → (t ≡ true → R → P) → (t ≡ false → R → Q) → h ≡ f || g
tells_either t {f} {g} {h} p q r pr qr rp rq =
    joined f g h (λ e. r.finds (pr (p.holds e))) (λ e. r.finds (qr (q.holds e))) (λ e. either t (λ a. either_left f g (p.finds (rp a (r.holds e)))) (λ a. either_right f g (q.finds (rq a (r.holds e)))))
  where
    either_left : (f g : Bool) → f ≡ true → f || g ≡ true
    either_left true g e = refl
    either_left false g e = absurd (false≢true e)

    either_right : (f g : Bool) → g ≡ true → f || g ≡ true
    either_right true g e = refl
    either_right false g e = e

    joined : (f g h : Bool) → (f ≡ true → h ≡ true) → (g ≡ true → h ≡ true) → (h ≡ true → f || g ≡ true) → h ≡ f || g
    joined true g h x y z = x refl
    joined false true h x y z = y refl
    joined false false true x y z = sym (z refl)
    joined false false false x y z = refl
