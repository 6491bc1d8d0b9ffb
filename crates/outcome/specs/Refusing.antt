-- The refusals that a frame or its line has of its own.
use Rattle.verdict.specs.declared.Reason.{Reason}
use Rattle.outcome.specs.declared.Kind.{Kind}
use Rattle.outcome.specs.declared.Outcome.TheVariants.{Bad}
use Rattle.outcome.specs.declared.FrameAnswer.{FrameAnswer}

-- they have place 0
abbrev pub refusing : Kind → Reason → FrameAnswer
refusing kind reason = record { kind = kind; outcome = Bad (record { reason = reason; place = 0 }) }
