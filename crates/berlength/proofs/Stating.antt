-- Two lengths that state the same are the same. Assumes nothing.
use mathlib.Core.Path.{◌≡◌, refl, sym, ap₂}
use native.Mathlib.Omega.{arith}
use Prim.Native.Nat.{ℕ}
use Rattle.verdict.specs.Stated.{refuses}
use Rattle.verdict.proofs.Stating.{stated_at, gives_no_refusal}
use Rattle.std.specs.Prelude.{Result, Ok, Err}
use Rattle.berlength.specs.declared.Length.{Length}
use Rattle.berlength.specs.declared.NoLength.{NoLength}
use Rattle.berlength.specs.declared.NoLength.TheVariants.{Missing, WrongForm}
use Rattle.berlength.specs.Lengths.{of}
use Rattle.berlength.specs.Stated.{stated_length}

apart : {p k : ℕ} → refuses 24 p ≡ refuses 22 k → ⊥
apart e = let z : ◌≡◌ {A = ℕ} 24 22 = cc in omega (arith, z)

pub length_own : (x y : Result Length NoLength) → stated_length x ≡ stated_length y → x ≡ y
length_own (Err Missing) (Err Missing) e = refl
length_own (Err WrongForm) (Err WrongForm) e = refl
length_own (Ok n) (Ok m) e = ap₂ of (stated_at 0 e) (stated_at 1 e)
length_own (Err Missing) (Err WrongForm) e = absurd (apart e)
length_own (Err WrongForm) (Err Missing) e = absurd (apart (sym e))
length_own (Err Missing) (Ok n) e = absurd (gives_no_refusal (sym e))
length_own (Err WrongForm) (Ok n) e = absurd (gives_no_refusal (sym e))
length_own (Ok n) (Err Missing) e = absurd (gives_no_refusal e)
length_own (Ok n) (Err WrongForm) e = absurd (gives_no_refusal e)
