-- What writing a report line into a lent buffer answers and leaves.
use Rattle.std.specs.Prelude.{ℕ, ◌+◌, ◌≤◌, List, length}
use Rattle.verdict.specs.declared.Verdict.{Verdict}
use Rattle.verdict.specs.Writing.{room_rows, WrittenBy}
use Rattle.outcome.specs.declared.FrameAnswer.{FrameAnswer}
use Rattle.text.specs.Text.{text_of}

-- no report line is longer
abbrev pub room : ℕ
room = 80

-- a text at a place: the count of its bytes, or 13
abbrev pub WrittenText : List ℕ → List ℕ → ℕ → Verdict → List ℕ → Type 0
WrittenText text out place = WrittenBy (room_rows (place + length text) (length out)) text out place

-- a report line at a place, which is no longer than that
pub record WrittenLine (number : ℕ) (answer : FrameAnswer) (out : List ℕ) (place : ℕ) (verdict : Verdict) (out' : List ℕ) : Type 0 where
  pub short : length (text_of number answer) ≤ room
  pub written : WrittenText (text_of number answer) out place verdict out'
