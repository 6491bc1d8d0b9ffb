-- What C gets of a frame: the letter of its kind, and what came of it as a verdict's number.
use Rattle.std.specs.Prelude.{ℕ, ◌≡◌, List}
use Rattle.verdict.specs.declared.Verdict.{Verdict}
use Rattle.verdict.specs.declared.Verdict.TheVariants.{Complete, Unfinished, Refused}
use Rattle.verdict.specs.Numbers.{packed_of}
use Rattle.outcome.specs.declared.Outcome.{Outcome}
use Rattle.outcome.specs.declared.Outcome.TheVariants.{Ok, Cut, Bad, Open}
use Rattle.outcome.specs.Letters.{letter_of}
use Rattle.frame.specs.Frame.{answer_of}

-- complete at the value's length, unfinished by what is missing, refused; no frame is open, which is said of a line
abbrev pub said_of : Outcome → Verdict
said_of (Ok n) = Complete n
said_of (Cut missing) = Unfinished missing
said_of (Bad refusal) = Refused refusal
said_of Open = Unfinished 0

-- the number, and the kind's letter, whatever the number says
pub record FrameSaid (bytes : List ℕ) (number kind : ℕ) : Type 0 where
  pub said : number ≡ packed_of (said_of (answer_of bytes).outcome)
  pub letter : kind ≡ letter_of (answer_of bytes).kind
