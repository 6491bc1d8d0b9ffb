-- What addressing answers to C.
use Rattle.std.specs.Prelude.{ℕ, List}
use Rattle.verdict.specs.declared.Verdict.{Verdict}
use Rattle.verdict.specs.Answers.{said}
use Rattle.arrayreader.specs.Reading.{address_of}

-- the offset of the element at these indices, packed as a length is, or why there is none
abbrev pub addressed_of : List ℕ → List ℕ → Verdict
addressed_of bytes indices = said (address_of bytes indices)
