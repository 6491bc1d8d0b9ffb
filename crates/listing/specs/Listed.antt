-- Numbers in a lent list: a verdict other than complete first, then 13.
use Rattle.std.specs.Prelude.{ℕ, ◌≡◌, List, length, ltb}
use Rattle.verdict.specs.declared.Verdict.{Verdict}
use Rattle.verdict.specs.Lent.{said_for, left_for}

-- by the verdict, and the numbers that a complete pack has: what is said, and what is left in the list
pub record ListedBy (verdict : Verdict) (numbers out : List ℕ) (answer : Verdict) (out' : List ℕ) : Type 0 where
  pub said : answer ≡ said_for verdict (ltb (length out) (length numbers))
  pub left : out' ≡ left_for (said_for verdict (ltb (length out) (length numbers))) numbers out
