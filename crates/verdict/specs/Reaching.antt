-- For private functions alone: the verdict on all the bytes, from where a machine stands in them.
use Rattle.std.specs.Prelude.{ℕ, ◌-◌, List, drop}
use Rattle.verdict.specs.declared.Verdict.{Verdict}
use Rattle.verdict.specs.declared.Verdict.TheVariants.{Complete, Refused}
use Rattle.verdict.specs.Machine.{Move, on, done, bad, shift, run}

module _ {S : Type 0} (step : S → ℕ → Move S) where
  -- the verdict on all the bytes, from a state that the machine has reached at a place of them
  unfoldable pub reach : (S → ℕ) → S → List ℕ → ℕ → Verdict
  reach least s bytes place = shift place (run step least s (drop place bytes))

  -- and behind the move of the byte before that place
  unfoldable pub led : (S → ℕ) → Move S → List ℕ → ℕ → Verdict
  unfolding reach
  led least (on s) bytes place = reach least s bytes place
  led least done bytes place = Complete place
  led least (bad reason) bytes place = Refused (record { reason = reason; place = place - 1 })
