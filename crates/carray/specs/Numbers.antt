-- What reading an array pack answers, as eleven numbers in a lent list.
use Rattle.std.specs.Prelude.{ℕ, List, [], ◌∷◌, Result, Ok, Err, get_or}
use Rattle.verdict.specs.declared.Stop.{Stop}
use Rattle.verdict.specs.declared.Verdict.{Verdict}
use Rattle.array.specs.Machine.{verdict_of}
use Rattle.arrayreader.specs.declared.ArrayRead.{ArrayRead}
use Rattle.arrayreader.specs.Reading.{array_read_of}
use Rattle.listing.specs.Listed.{ListedBy}

-- NDim, eight sizes, E, start
abbrev pub numbers_of : ℕ → List ℕ → ℕ → ℕ → List ℕ
numbers_of dims sizes element start =
    dims
    ∷ get_or sizes 0 0
    ∷ get_or sizes 1 0
    ∷ get_or sizes 2 0
    ∷ get_or sizes 3 0
    ∷ get_or sizes 4 0
    ∷ get_or sizes 5 0
    ∷ get_or sizes 6 0
    ∷ get_or sizes 7 0
    ∷ element
    ∷ start
    ∷ []

-- the numbers of an answer; where the pack is not complete there are none
abbrev pub array_numbers : Result ArrayRead Stop → List ℕ
array_numbers (Ok pack) = numbers_of pack.dims pack.sizes pack.element pack.start
array_numbers (Err stop) = []

-- eleven numbers of an array
abbrev pub NumbersBy : List ℕ → List ℕ → Verdict → List ℕ → Type 0
NumbersBy bytes = ListedBy (verdict_of bytes) (array_numbers (array_read_of bytes))
