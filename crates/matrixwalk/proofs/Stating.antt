-- What a walk over a matrix pack states: the verdict, and of a complete pack what was found. Assumes nothing.
use Prim.Native.Nat.{ℕ}
use mathlib.Core.Path.{◌≡◌, refl}
use mathlib.Core.List.{List, []}
use Rattle.verdict.specs.declared.Verdict.{Verdict}
use Rattle.verdict.specs.declared.Verdict.TheVariants.{Complete, Unfinished, Refused}
use Rattle.verdict.specs.Stated.{stated_verdict}
use Rattle.matrix.specs.declared.Told.{Told}
use Rattle.matrix.specs.Machine.{verdict_of}
use Rattle.matrixwalk.specs.Walk.{found_of, walked_for, walked_of}
use Rattle.matrixwalk.specs.Stated.{found_numbers, stated_walked}

-- the numbers of a complete pack
abbrev pub walked_values : Told → List ℕ → Verdict → List ℕ
walked_values told bytes (Complete n) = found_numbers (found_of told bytes n)
walked_values told bytes (Unfinished missing) = []
walked_values told bytes (Refused refusal) = []

pub walked_states : (told : Told) (bytes : List ℕ) → stated_walked (walked_of told bytes) ≡ stated_verdict (verdict_of told bytes) (walked_values told bytes (verdict_of told bytes))
walked_states told bytes = by (verdict_of told bytes)
  where
    by : (v : Verdict) → stated_walked (walked_for told bytes v) ≡ stated_verdict v (walked_values told bytes v)
    by (Complete n) = refl
    by (Unfinished missing) = refl
    by (Refused refusal) = refl
