-- What C gets: the answer of the call inside, packed in one number.
use Rattle.std.specs.Prelude.{ℕ, ◌≡◌}
use Rattle.verdict.specs.declared.Verdict.{Verdict}
use Rattle.verdict.specs.Numbers.{packed_of}

-- the number of an answer that the call inside may give
pub record PackedBy (May : Verdict → Type 0) (number : ℕ) : Type 0 where
  pub answer : Verdict
  pub given : May answer
  pub packed : number ≡ packed_of answer
