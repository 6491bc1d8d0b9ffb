-- What is listed of the same numbers. Assumes nothing.
use Prim.Native.Nat.{ℕ}
use mathlib.Core.Path.{◌≡◌, refl}
use mathlib.Core.List.{List}
use Rattle.verdict.specs.declared.Verdict.{Verdict}
use Rattle.verdict.specs.declared.Verdict.TheVariants.{Complete, Unfinished, Refused}
use Rattle.listing.specs.Listed.{ListedBy}

module _ (out : List ℕ) (answer : Verdict) (out' : List ℕ) where
  -- the same verdict, and the same numbers where it is complete
  pub listed_as : (verdict said : Verdict) (numbers list : List ℕ) → said ≡ verdict → ((n : ℕ) → verdict ≡ Complete n → list ≡ numbers) → ListedBy said list out answer out' → ListedBy verdict numbers out answer out'
  listed_as (Complete n) said numbers list e same l = rw (← e, ← same n refl) l
  listed_as (Unfinished missing) said numbers list e same l = let k : ListedBy (Unfinished missing) list out answer out' = rw (← e) l in record { said = k.said; left = k.left }
  listed_as (Refused refusal) said numbers list e same l = let k : ListedBy (Refused refusal) list out answer out' = rw (← e) l in record { said = k.said; left = k.left }
