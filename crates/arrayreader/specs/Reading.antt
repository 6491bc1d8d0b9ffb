-- What reading an array pack answers, and addressing an element of it.
use Rattle.std.specs.Prelude.{ℕ, ◌-◌, ◌*◌, cond, List, [], ◌∷◌, Result, Ok, Err, length, get_or}
use Rattle.verdict.specs.declared.Reason.TheVariants.{Index}
use Rattle.verdict.specs.declared.Stop.{Stop}
use Rattle.verdict.specs.declared.Stop.TheVariants.{Unfinished as StopUnfinished, Refused as StopRefused}
use Rattle.verdict.specs.declared.Verdict.{Verdict}
use Rattle.verdict.specs.declared.Verdict.TheVariants.{Complete, Unfinished, Refused}
use Rattle.arrayreader.specs.declared.ArrayRead.{ArrayRead}
use Rattle.array.specs.Meaning.{product}
use Rattle.array.specs.Meaning.{Array as Meant}
use Rattle.array.specs.Decoded.{meaning_of}
use Rattle.array.specs.Offsets.{inside, offset}
use Rattle.array.specs.Machine.{verdict_of}

-- a list of at most eight sizes as eight, 0 past its end
abbrev pub sizes_of : List ℕ → List ℕ
sizes_of l = get_or l 0 0 ∷ get_or l 1 0 ∷ get_or l 2 0 ∷ get_or l 3 0 ∷ get_or l 4 0 ∷ get_or l 5 0 ∷ get_or l 6 0 ∷ get_or l 7 0 ∷ []

-- NDim, sizes and E of the meaning that a complete pack's bytes have; its array begins so many bytes before its end, which is its length
abbrev pub array_at : Meant → ℕ → ArrayRead
array_at a end = record { dims = length a.sizes; sizes = sizes_of a.sizes; element = a.element; start = end - product a.sizes * a.element; length = end }

abbrev pub array_read_for : List ℕ → Verdict → Result ArrayRead Stop
array_read_for bytes (Complete end) = Ok (array_at (meaning_of bytes) end)
array_read_for bytes (Unfinished missing) = Err (StopUnfinished missing)
array_read_for bytes (Refused refusal) = Err (StopRefused refusal)

abbrev pub array_read_of : List ℕ → Result ArrayRead Stop
array_read_of bytes = array_read_for bytes (verdict_of bytes)

-- the offset in bytes, or refused 15
abbrev pub address_in : Meant → List ℕ → Result ℕ Stop
address_in a indices = cond (inside a.sizes indices) (Ok (offset a.sizes indices * a.element)) (Err (StopRefused (record { reason = Index; place = 0 })))

abbrev pub address_for : List ℕ → List ℕ → Verdict → Result ℕ Stop
address_for bytes indices (Complete end) = address_in (meaning_of bytes) indices
address_for bytes indices (Unfinished missing) = Err (StopUnfinished missing)
address_for bytes indices (Refused refusal) = Err (StopRefused refusal)

abbrev pub address_of : List ℕ → List ℕ → Result ℕ Stop
address_of bytes indices = address_for bytes indices (verdict_of bytes)
