-- The number that C gets, as document 01 has it.
use Rattle.std.specs.Prelude.{ℕ, ◌≡◌}
use Rattle.verdict.specs.declared.Verdict.{Verdict}
use Rattle.verdict.specs.Numbers.{paper_of, Occurs}

-- document 01's number of an answer that the call inside may give, each of whose values is within its field
pub record PaperBy (May : Verdict → Type 0) (number : ℕ) : Type 0 where
  pub answer : Verdict
  pub given : May answer
  pub paper : number ≡ paper_of answer
  pub within : Occurs answer
