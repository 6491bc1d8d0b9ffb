-- What the beginning of a matrix pack tells, up to its first word.
use Rattle.std.specs.Prelude.{ℕ, Bool, cond, List, Result, Ok, Err, length, take, ltb}
use Rattle.verdict.specs.declared.Stop.{Stop}
use Rattle.verdict.specs.declared.Stop.TheVariants.{Unfinished as StopUnfinished, Refused as StopRefused}
use Rattle.verdict.specs.declared.Verdict.{Verdict}
use Rattle.verdict.specs.declared.Verdict.TheVariants.{Complete, Unfinished, Refused}
use Rattle.matrix.specs.declared.Told.{Told}
use Rattle.matrix.specs.Header.{fields_of, sent_in, words_from}
use Rattle.matrix.specs.Machine.{verdict_of}
use Rattle.matrixhead.specs.declared.Begun.{Begun}

-- how many bytes stand before the words
abbrev pub before : Told → List ℕ → ℕ
before told bytes = words_from (fields_of told bytes)

-- the fields, the place of the first word, and how many coefficients are sent
abbrev pub values_of : Told → List ℕ → Begun
values_of told bytes = record { fields = fields_of told bytes; words = before told bytes; sent = sent_in (fields_of told bytes) bytes }

-- by the verdict on what stands before the words, and whether that is cut short
abbrev pub begun_for : Told → List ℕ → Bool → Verdict → Result Begun Stop
begun_for told bytes short (Complete n) = Ok (values_of told bytes)
begun_for told bytes short (Unfinished missing) = cond short (Err (StopUnfinished missing)) (Ok (values_of told bytes))
begun_for told bytes short (Refused refusal) = Err (StopRefused refusal)

-- what the beginning of some bytes tells, whatever stands behind it
abbrev pub begun_of : Told → List ℕ → Result Begun Stop
begun_of told bytes = begun_for told bytes (ltb (length bytes) (before told bytes)) (verdict_of told (take (before told bytes) bytes))
