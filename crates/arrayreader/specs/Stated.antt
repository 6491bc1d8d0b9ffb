-- What reading and addressing an array pack state in document 01's terms.
use Rattle.std.specs.Prelude.{ℕ, List, [], ◌∷◌, ◌++◌, Result, Ok, Err}
use Rattle.verdict.specs.declared.Stop.{Stop}
use Rattle.verdict.specs.Stated.{Stated, gives, stated_stop}
use Rattle.arrayreader.specs.declared.ArrayRead.{ArrayRead}

-- NDim, eight sizes, which are 0 past the last, E, the place of the array's first byte and the length
abbrev pub array_values : ℕ → List ℕ → ℕ → ℕ → ℕ → List ℕ
array_values dims sizes element start length = dims ∷ (sizes ++ (element ∷ start ∷ length ∷ []))

-- these values; what is missing; a refusal's number and place
abbrev pub stated_array_read : Result ArrayRead Stop → Stated
stated_array_read (Ok read) = gives (array_values read.dims read.sizes read.element read.start read.length)
stated_array_read (Err stop) = stated_stop stop

-- the offset; what is missing; a refusal's number and place
abbrev pub stated_addressed : Result ℕ Stop → Stated
stated_addressed (Ok offset) = gives (offset ∷ [])
stated_addressed (Err stop) = stated_stop stop
