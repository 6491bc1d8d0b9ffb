-- What reading answers behind each answer of the walk. Assumes nothing.
use Prim.Native.Nat.{ℕ}
use mathlib.Core.Path.{◌≡◌, refl, ap, ◌∙◌}
use mathlib.Core.List.{List}
use Rattle.verdict.specs.declared.Verdict.{Verdict}
use Rattle.verdict.specs.declared.Verdict.TheVariants.{Complete, Unfinished, Refused}
use Rattle.std.specs.Prelude.{Result, Ok, Err}
use Rattle.verdict.specs.declared.Stop.{Stop}
use Rattle.matrixwalk.specs.declared.Found.{Found}
use Rattle.matrixwalk.specs.Walk.{walked_for, walked_of}
use Rattle.matrix.specs.declared.Told.{Told}
use Rattle.matrix.specs.Machine.{verdict_of}
use Rattle.matrixreader.specs.declared.MatrixRead.{MatrixRead}
use Rattle.matrixreader.specs.Reading.{matrix_read_for, matrix_read_of}

-- what reading answers behind a walk
abbrev pub read_in : Result Found Stop → Result MatrixRead Stop
read_in (Ok found) = Ok (record { fields = found.fields; length = found.length })
read_in (Err stop) = Err stop

read_back : (told : Told) (bytes : List ℕ) (v : Verdict) → read_in (walked_for told bytes v) ≡ matrix_read_for told bytes v
read_back told bytes (Complete n) = refl
read_back told bytes (Unfinished missing) = refl
read_back told bytes (Refused refusal) = refl

pub walk_read : (told : Told) (bytes : List ℕ) (walked : Result Found Stop) → walked ≡ walked_of told bytes → read_in walked ≡ matrix_read_of told bytes
walk_read told bytes walked e = ap read_in e ∙ read_back told bytes (verdict_of told bytes)
