-- What the writer of array packs answers to C, and what it leaves in the lent bytes.
use Rattle.std.specs.Prelude.{ℕ, List}
use Rattle.verdict.specs.declared.Verdict.{Verdict}
use Rattle.verdict.specs.Writing.{WrittenBy}
use Rattle.array.specs.Spelling.{bytes_of}
use Rattle.arraywriter.specs.Given.{meaning_given, writer_rows}

-- as the writer of array packs
abbrev pub ArrayWritten : List ℕ → ℕ → List ℕ → List ℕ → Verdict → List ℕ → Type 0
ArrayWritten sizes element body out = WrittenBy (writer_rows sizes element body out) (bytes_of (meaning_given sizes element body)) out 0
