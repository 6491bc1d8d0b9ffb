-- What one pass over the numbers of an array pack answers.
use Rattle.std.specs.Prelude.{ℕ, ◌-◌, ◌*◌, List, Result, Ok, Err, length}
use Rattle.verdict.specs.declared.Stop.{Stop}
use Rattle.verdict.specs.declared.Stop.TheVariants.{Unfinished as StopUnfinished, Refused as StopRefused}
use Rattle.verdict.specs.declared.Verdict.{Verdict}
use Rattle.verdict.specs.declared.Verdict.TheVariants.{Complete, Unfinished, Refused}
use Rattle.arraywalk.specs.declared.Found.{Found}
use Rattle.array.specs.Meaning.{product}
use Rattle.array.specs.Decoded.{meaning_of}
use Rattle.array.specs.Machine.{verdict_of}

-- of a complete pack: NDim and E of its meaning, and its array begins so many bytes before its end, which is its length
abbrev pub found_of : List ℕ → ℕ → Found
found_of bytes n =
    let a = meaning_of bytes in
    record { dims = length a.sizes; element = a.element; start = n - product a.sizes * a.element; length = n }

-- what a walk answers: what it finds of a complete pack, else the verdict
abbrev pub walked_for : List ℕ → Verdict → Result Found Stop
walked_for bytes (Complete n) = Ok (found_of bytes n)
walked_for bytes (Unfinished missing) = Err (StopUnfinished missing)
walked_for bytes (Refused refusal) = Err (StopRefused refusal)

abbrev pub walked_of : List ℕ → Result Found Stop
walked_of bytes = walked_for bytes (verdict_of bytes)
