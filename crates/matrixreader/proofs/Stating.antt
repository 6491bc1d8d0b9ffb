-- What reading a matrix pack states: the verdict, and of a complete pack its fields and its length. Assumes nothing.
use Prim.Native.Nat.{ℕ}
use mathlib.Core.Path.{◌≡◌, refl}
use mathlib.Core.List.{List, [], ◌∷◌, ◌++◌}
use Rattle.verdict.specs.declared.Verdict.{Verdict}
use Rattle.verdict.specs.declared.Verdict.TheVariants.{Complete, Unfinished, Refused}
use Rattle.verdict.specs.Stated.{stated_verdict}
use Rattle.matrix.specs.declared.Told.{Told}
use Rattle.matrix.specs.Spelling.{meaning_of}
use Rattle.matrix.specs.Listed.{field_numbers}
use Rattle.matrix.specs.Machine.{verdict_of}
use Rattle.matrixreader.specs.Reading.{matrix_read_for, matrix_read_of}
use Rattle.matrixreader.specs.Stated.{stated_matrix_read}

-- the numbers of a complete pack
abbrev pub read_values : Told → List ℕ → Verdict → List ℕ
read_values told bytes (Complete length) = field_numbers (meaning_of told bytes).fields ++ (length ∷ [])
read_values told bytes (Unfinished missing) = []
read_values told bytes (Refused refusal) = []

pub matrix_read_states : (told : Told) (bytes : List ℕ) → stated_matrix_read (matrix_read_of told bytes) ≡ stated_verdict (verdict_of told bytes) (read_values told bytes (verdict_of told bytes))
matrix_read_states told bytes = by (verdict_of told bytes)
  where
    by : (v : Verdict) → stated_matrix_read (matrix_read_for told bytes v) ≡ stated_verdict v (read_values told bytes v)
    by (Complete length) = refl
    by (Unfinished missing) = refl
    by (Refused refusal) = refl
