-- What a walk over a matrix pack answers.
use Rattle.std.specs.Prelude.{ℕ, List, Result, Ok, Err}
use Rattle.verdict.specs.declared.Stop.{Stop}
use Rattle.verdict.specs.declared.Stop.TheVariants.{Unfinished as StopUnfinished, Refused as StopRefused}
use Rattle.verdict.specs.declared.Verdict.{Verdict}
use Rattle.verdict.specs.declared.Verdict.TheVariants.{Complete, Unfinished, Refused}
use Rattle.matrix.specs.declared.Told.{Told}
use Rattle.matrix.specs.Header.{fields_of, sent_in, words_from}
use Rattle.matrix.specs.Machine.{verdict_of}
use Rattle.matrixwalk.specs.declared.Found.{Found}

-- what a walk finds of a complete pack: its fields, the place of its first word, how many coefficients are sent and its length
abbrev pub found_of : Told → List ℕ → ℕ → Found
found_of told bytes n =
    let f = fields_of told bytes in
    record { fields = f; words = words_from f; sent = sent_in f bytes; length = n }

-- what a walk answers: what it found, or why there is no whole pack
abbrev pub walked_for : Told → List ℕ → Verdict → Result Found Stop
walked_for told bytes (Complete n) = Ok (found_of told bytes n)
walked_for told bytes (Unfinished missing) = Err (StopUnfinished missing)
walked_for told bytes (Refused refusal) = Err (StopRefused refusal)

abbrev pub walked_of : Told → List ℕ → Result Found Stop
walked_of told bytes = walked_for told bytes (verdict_of told bytes)
