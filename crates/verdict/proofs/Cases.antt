-- What follows by the outcome of a test. Assumes nothing.
use mathlib.Core.Path.{◌≡◌, refl, sym, ◌∙◌}
use mathlib.Core.Bool.{Bool, true, false, ◌&&◌, ◌||◌, cond, false≢true}

-- a claim of a choice, by the test that makes it
pub by_test : {X : Type 0} (P : X → Type 0) (t : Bool) (x y : X) → (t ≡ true → P x) → (t ≡ false → P y) → P (cond t x y)
by_test P true x y f g = f refl
by_test P false x y f g = g refl

-- a claim that names no choice
pub either : {P : Type 0} (t : Bool) → (t ≡ true → P) → (t ≡ false → P) → P
either true f g = f refl
either false f g = g refl

-- two tests that both hold
pub both_true : (a b : Bool) → a && b ≡ true → (a ≡ true) × (b ≡ true)
both_true true b e = (refl, e)
both_true false b e = absurd (false≢true e)

-- of two tests that do not both hold, the second fails where the first holds
pub and_right : (a b : Bool) → a && b ≡ false → a ≡ true → b ≡ false
and_right true b e h = e
and_right false b e h = absurd (false≢true h)

-- of two tests one of which holds, the first holds where the second fails
pub or_left : (a b : Bool) → a || b ≡ true → b ≡ false → a ≡ true
or_left true b e h = refl
or_left false b e h = absurd (false≢true (sym h ∙ e))
