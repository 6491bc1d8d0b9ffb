-- What a call that fills lent lists answers, and what it leaves in them: they change only where the answer is complete.
use Rattle.std.specs.Prelude.{Bool, cond, List, ◌++◌, length, drop}
use Rattle.verdict.specs.declared.Reason.TheVariants.{SmallBuffer}
use Rattle.verdict.specs.declared.Verdict.{Verdict}
use Rattle.verdict.specs.declared.Verdict.TheVariants.{Complete, Unfinished, Refused}
use Rattle.verdict.specs.Writing.{refusing}

-- values over the first entries of a list; those past them stay
abbrev pub over : {A : Type 0} → List A → List A → List A
over values out = values ++ drop (length values) out

-- a verdict other than complete first, then 13
abbrev pub said_for : Verdict → Bool → Verdict
said_for (Complete n) short = cond short (refusing SmallBuffer) (Complete n)
said_for (Unfinished missing) short = Unfinished missing
said_for (Refused refusal) short = Refused refusal

-- what is left in a lent list: these values where the answer is complete
abbrev pub left_for : {A : Type 0} → Verdict → List A → List A → List A
left_for (Complete n) values out = over values out
left_for (Unfinished missing) values out = out
left_for (Refused refusal) values out = out
