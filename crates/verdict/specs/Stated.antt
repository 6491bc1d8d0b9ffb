-- What an answer states in document 01's terms, whatever enum it is of.
use Rattle.std.specs.Prelude.{ℕ, List}
use Rattle.verdict.specs.declared.Refusal.{Refusal}
use Rattle.verdict.specs.declared.Stop.{Stop}
use Rattle.verdict.specs.declared.Stop.TheVariants.{Unfinished as StopUnfinished, Refused as StopRefused}
use Rattle.verdict.specs.declared.Verdict.{Verdict}
use Rattle.verdict.specs.declared.Verdict.TheVariants.{Complete, Unfinished, Refused}
use Rattle.verdict.specs.Numbers.{number_of}

-- values, in the order in which document 01 names them; so many bytes missing; a refusal's number in the table, and its place
pub data Stated : Type 0 where
  gives : List ℕ → Stated
  misses : ℕ → Stated
  refuses : ℕ → ℕ → Stated

-- a refusal states its reason's number and its place
abbrev pub stated_refusal : Refusal → Stated
stated_refusal refusal = refuses (number_of refusal.reason) refusal.place

-- and why there is no whole pack
abbrev pub stated_stop : Stop → Stated
stated_stop (StopUnfinished missing) = misses missing
stated_stop (StopRefused refusal) = stated_refusal refusal

-- a verdict states what is missing or refused, and a complete one the values that come with it
abbrev pub stated_verdict : Verdict → List ℕ → Stated
stated_verdict (Complete n) values = gives values
stated_verdict (Unfinished missing) values = misses missing
stated_verdict (Refused refusal) values = stated_refusal refusal
