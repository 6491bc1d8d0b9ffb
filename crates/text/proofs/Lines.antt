-- Laws of a report line: how long it is, and what writing it answers; and of writing any text. Assumes nothing.
use Prim.Native.Nat.{ℕ, ◌+◌, ◌≤◌, ◌<◌}
use mathlib.Core.Path.{◌≡◌, ◌∙◌}
use mathlib.Core.List.{List}
use native.Mathlib.Omega.{arith}
use borrow.Author.Tests.{lt-ltb, le-ltb}
use lib.ListN.{length, length-append}
use Rattle.verdict.specs.declared.Verdict.{Verdict}
use Rattle.verdict.specs.declared.Verdict.TheVariants.{Complete}
use Rattle.outcome.specs.declared.FrameAnswer.{FrameAnswer}
use Rattle.text.specs.Text.{word_of, first_number_of, second_of, decimal, text_of}
use Rattle.verdict.specs.declared.Reason.TheVariants.{SmallBuffer}
use Rattle.verdict.specs.Writing.{put, refusing, decided}
use Rattle.text.specs.Writing.{room, WrittenText, WrittenLine}

pub length_text : (number : ℕ) (answer : FrameAnswer) → length (text_of number answer)
    ≡ length (decimal number) + 3 + length (word_of answer.outcome) + 1 + length (decimal (first_number_of answer.outcome)) + 1 + length (decimal (second_of answer.outcome)) + 1
length_text number answer = simp length-append (omega arith)

-- a text has no room, or is put
module _ (text out : List ℕ) (place : ℕ) where
  pub text_none : length out < place + length text → WrittenText text out place (refusing SmallBuffer) out
  unfolding decided
  text_none h = let t = lt-ltb (length out) (place + length text) h in record { said = rw t; left = rw t }

  pub text_all : (out' : List ℕ) → place + length text ≤ length out → out' ≡ put out place text → WrittenText text out place (Complete (length text)) out'
  unfolding decided
  text_all out' h e = let t = le-ltb (length out) (place + length text) h in record { said = rw t; left = rw t e }

-- where any line has room, this one is written
module _ (number : ℕ) (answer : FrameAnswer) (out : List ℕ) (place : ℕ) (verdict : Verdict) (out' : List ℕ) (h : place + room ≤ length out) (w : WrittenLine number answer out place verdict out') where
  pub line_written : verdict ≡ Complete (length (text_of number answer))
  unfolding decided
  line_written = w.written.said ∙ rw (le-ltb (length out) (place + length (text_of number answer)) (omega (arith, w.short)))

  pub line_left : out' ≡ put out place (text_of number answer)
  unfolding decided
  line_left = w.written.left ∙ rw (le-ltb (length out) (place + length (text_of number answer)) (omega (arith, w.short)))
