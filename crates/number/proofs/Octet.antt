-- What the tests of an octet come to, a law for each case of `ended`, `gone_on` and `effect_of`. Assumes nothing.
use Prim.Native.Nat.{ℕ, ◌+◌, ◌*◌, ◌-◌, ◌<◌, ◌≤◌}
use mathlib.Core.Path.{◌≡◌, refl}
use mathlib.Core.Bool.{Bool, true, false, ◌&&◌}
use native.Mathlib.Omega.{arith}
use lib.Dec.{eqb, ltb}
use Rattle.std.specs.Prelude.{Result, Ok, Err}
use borrow.Author.Tests.{lt-ltb, le-ltb, ne_eqb, ltb-true, ltb-false, eqb-false}
use Rattle.verdict.proofs.Cases.{by_test}
use Rattle.verdict.specs.declared.Reason.{Reason}
use Rattle.number.specs.declared.Effect.{Effect}
use Rattle.number.specs.declared.Effect.TheVariants.{Ends, GoesOn}
use Rattle.number.specs.Octet.{ended, gone_on, effect_of}

-- the ways that an octet's effect goes: the tests that it passed, and the value that they leave
pub data Does (octet value : ℕ) (positive : Bool) (most : ℕ) : Result Effect Reason → Type 0 where
  ends : octet < 128 → (positive ≡ true → 0 < value * 128 + octet) → value * 128 + octet ≤ most → Does octet value positive most (Ok (Ends (value * 128 + octet)))
  goes : (d : ℕ) → octet ≡ 128 + d → 0 < value * 128 + d → (value * 128 + d) * 128 ≤ most → Does octet value positive most (Ok (GoesOn (value * 128 + d)))
  fails : {reason : Reason} → Does octet value positive most (Err reason)

pub does : (octet value : ℕ) (positive : Bool) (most : ℕ) → Does octet value positive most (effect_of octet value positive most)
does octet value positive most =
    let P : Result Effect Reason → Type 0 = λ e. Does octet value positive most e in
    let n = value * 128 + octet in let m = value * 128 + (octet - 128) in
    by_test P (ltb octet 128) _ _
    (λ h. by_test P (positive && eqb n 0) _ _ (λ _. fails) (λ z. by_test P (ltb most n) _ _ (λ _. fails) (λ l. ends (ltb-true octet 128 h) (λ p. omega (arith, eqb-false n 0 (rw p at z))) (ltb-false most n l))))
    (λ h. by_test P (eqb m 0) _ _ (λ _. fails) (λ z. by_test P (ltb most (m * 128)) _ _ (λ _. fails) (λ l. goes (octet - 128) (omega (arith, ltb-false octet 128 h)) (omega (arith, eqb-false m 0 z)) (ltb-false most (m * 128) l))))

pub ended_well : (positive : Bool) (most value : ℕ) → (positive ≡ true → 0 < value) → value ≤ most → ended positive most value ≡ Ok (Ends value)
ended_well true most value p h = let q = p refl in simp (ne_eqb value 0 (λ e. omega arith), le-ltb most value h)
ended_well false most value p h = simp (le-ltb most value h)

pub gone_well : (most value : ℕ) → 0 < value → value * 128 ≤ most → gone_on most value ≡ Ok (GoesOn value)
gone_well most value p h = simp (ne_eqb value 0 (λ e. omega arith), le-ltb most (value * 128) h)

pub effect_ends : (octet value : ℕ) (positive : Bool) (most : ℕ) → octet < 128 → (positive ≡ true → 0 < value * 128 + octet) → value * 128 + octet ≤ most → effect_of octet value positive most ≡ Ok (Ends (value * 128 + octet))
effect_ends octet value positive most l p h = rw (lt-ltb octet 128 l) (ended_well positive most (value * 128 + octet) p h)

pub effect_goes : (d value : ℕ) (positive : Bool) (most : ℕ) → 0 < value * 128 + d → (value * 128 + d) * 128 ≤ most → effect_of (128 + d) value positive most ≡ Ok (GoesOn (value * 128 + d))
effect_goes d value positive most p h = let e : 128 + d - 128 ≡ d = omega arith in rw (le-ltb (128 + d) 128 (omega arith), e) (gone_well most (value * 128 + d) p h)
