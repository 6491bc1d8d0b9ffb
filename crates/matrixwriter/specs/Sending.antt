-- For private functions alone: what the parts of the writer of matrix packs know of each other.
use Rattle.std.specs.Prelude.{ℕ, ◌^◌, ◌≤◌, ◌<◌, ◌≡◌, List, length, take, replicate, get_or}
use Rattle.matrix.specs.declared.Fields.{Fields}
use Rattle.matrix.specs.Meaning.{pairs, sum, Lawful}
use Rattle.matrixcheck.specs.Given.{meaning_given}
use Rattle.matrixcheck.specs.Checking.{Enough}

-- what is given has a lawful meaning, and so many coefficients are sent
pub record LawfulGiven (f : Fields) (sent : ℕ) (deviations coefficients marks : List ℕ) : Type 0 where
  pub enough : Enough f deviations coefficients marks
  pub lawful : Lawful (meaning_given f deviations coefficients marks)
  pub counted : sent ≡ sum (take (pairs f.n) marks)

-- marks are 0 or 1, and the words that they send fit in so many bytes, at most eight
pub record Sendable (size : ℕ) (marks words : List ℕ) : Type 0 where
  pub short : size ≤ 8
  pub marked : (i : ℕ) → get_or marks i 0 ≤ 1
  pub fitting : (i : ℕ) → get_or marks i 0 ≡ 1 → get_or words i 0 < 256 ^ size

-- deviations that have bytes can be sent
pub record DeviationsFit (f : Fields) (deviations : List ℕ) : Type 0 where
  pub enough : f.n ≤ length deviations
  pub sendable : 0 < f.slen → Sendable f.slen (replicate f.n 1) deviations
