-- What a call's answer says, as a verdict.
use Rattle.std.specs.Prelude.{ℕ, Result, Ok, Err}
use Rattle.verdict.specs.declared.Refusal.{Refusal}
use Rattle.verdict.specs.declared.Stop.{Stop}
use Rattle.verdict.specs.declared.Stop.TheVariants.{Unfinished as StopUnfinished, Refused as StopRefused}
use Rattle.verdict.specs.declared.Verdict.{Verdict}
use Rattle.verdict.specs.declared.Verdict.TheVariants.{Complete, Unfinished, Refused}

-- why there is no whole pack
abbrev pub stopped : Stop → Verdict
stopped (StopUnfinished missing) = Unfinished missing
stopped (StopRefused refusal) = Refused refusal

-- a reader's answer: complete at a length, or why there is no whole pack
abbrev pub said : Result ℕ Stop → Verdict
said (Ok length) = Complete length
said (Err stop) = stopped stop

-- a writer's answer: the count of what it wrote, or its refusal
abbrev pub written : Result ℕ Refusal → Verdict
written (Ok count) = Complete count
written (Err refusal) = Refused refusal
