-- The deviation format that C states for Mode 1, and what it means for each call.
use Rattle.std.specs.Prelude.{ℕ, cond, List, eqb, ltb}
use Rattle.verdict.specs.declared.Reason.TheVariants.{Disagree}
use Rattle.verdict.specs.declared.Verdict.{Verdict}
use Rattle.verdict.specs.Writing.{refusing}
use Rattle.matrix.specs.declared.Told.{Told}
use Rattle.matrix.specs.Meaning.{stating}
use Rattle.matrix.specs.Spelling.{meaning_of}
use Rattle.matrix.specs.Machine.{verdict_of}
use Rattle.unpack.specs.Unpacking.{UnpackedFor, ExpandedFor}

-- what is told by a format: 0 is IEEE, 1 is mapped
abbrev pub told_by : ℕ → Told
told_by format = stating (eqb format 1)

-- the verdict under a format, 14 for a number that is none
abbrev pub verdict_by : ℕ → List ℕ → Verdict
verdict_by format bytes = cond (ltb 1 format) (refusing Disagree) (verdict_of (told_by format) bytes)

-- unpacking and expanding by that verdict
abbrev pub UnpackedUnder : ℕ → List ℕ → List ℕ → List ℕ → List ℕ → Verdict → List ℕ → List ℕ → List ℕ → Type 0
UnpackedUnder format bytes = UnpackedFor (verdict_by format bytes) (meaning_of (told_by format) bytes)

abbrev pub ExpandedUnder : ℕ → List ℕ → List ℕ → List ℕ → Verdict → List ℕ → List ℕ → Type 0
ExpandedUnder format bytes = ExpandedFor (verdict_by format bytes) (meaning_of (told_by format) bytes)
