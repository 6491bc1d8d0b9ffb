-- How long a failure's text is. Assumes nothing.
use Prim.Native.Nat.{ℕ, ◌+◌}
use mathlib.Core.Path.{◌≡◌, refl}
use mathlib.Core.List.{[], ◌∷◌, ◌++◌}
use native.Mathlib.Omega.{arith}
use lib.ListN.{length, length-append}
use Rattle.text.specs.declared.Failure.{Failure}
use Rattle.text.specs.declared.Failure.TheVariants.{Reading, Writing}
use Rattle.text.specs.Text.{decimal, failure_of, failure_text}

pub failure_length : (failure : Failure) → length (failure_of failure) ≡ 35
failure_length Reading = refl
failure_length Writing = refl

pub length_failure : (failure : Failure) (number : ℕ) → length (failure_text failure number) ≡ 36 + length (decimal number)
length_failure failure number = omega (arith, length-append (failure_of failure) (decimal number ++ (10 ∷ [])), length-append (decimal number) (10 ∷ []), failure_length failure)
