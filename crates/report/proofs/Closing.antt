-- Laws of a line's end: one that is closed is written, and so is one that is open behind the last chunk. Assumes nothing.
use Prim.Native.Nat.{ℕ, ◌+◌, ◌^◌, ◌≤◌, ◌<◌}
use mathlib.Core.Path.{◌≡◌, ◌∙◌, sym, ap, ap₂, subst}
use mathlib.Core.Bool.{false}
use mathlib.Core.List.{List, []}
use native.Mathlib.Omega.{arith}
use borrow.Author.Tests.{le-ltb, eq-eqb}
use lib.Dec.{eqb, ltb}
use lib.ListN.{length}
use Rattle.verdict.specs.declared.Verdict.TheVariants.{Complete}
use Rattle.std.specs.Prelude.{Result, Ok}
use Rattle.verdict.specs.declared.Refusal.{Refusal}
use Rattle.verdict.specs.Answers.{written}
use Rattle.verdict.specs.Writing.{put, decided}
use Rattle.verdict.proofs.Answering.{written_own}
use Rattle.verdict.proofs.Cases.{by_test}
use Rattle.verdict.proofs.Putting.{put_none}
use Rattle.outcome.specs.declared.Kind.TheVariants.{Unknown}
use Rattle.outcome.specs.declared.Outcome.TheVariants.{Open}
use Rattle.outcome.specs.declared.FrameAnswer.{FrameAnswer}
use Rattle.text.specs.Text.{text_of}
use Rattle.text.specs.Writing.{room, WrittenLine}
use Rattle.text.proofs.Decimals.{decimal_short}
use Rattle.text.proofs.Lines.{length_text, line_left, line_written}
use Rattle.report.specs.declared.feed.State.{State}
use Rattle.report.specs.declared.feed.Fed.{Fed}
use Rattle.report.specs.Line.{next_number}
use Rattle.report.specs.Feeding.{held_answer, open_held, Finished}
use Rattle.report.specs.Passing.{Closed}

-- where any line has room, the line that is held is closed
module _ (at : Fed) (answer : FrameAnswer) (out : List ℕ) (result : Result ℕ Refusal) (out' : List ℕ) (h : at.written + room ≤ length out) (w : WrittenLine at.state.number answer out at.written (written result) out') where
  abbrev text : List ℕ
  text = text_of at.state.number answer

  pub line_counted : result ≡ Ok (length text)
  line_counted = written_own result (Ok (length text)) (line_written at.state.number answer out at.written (written result) out' h w)

  module _ (count : ℕ) (is : result ≡ Ok count) where
    pub count_one : count ≡ length text
    count_one = let s : Ok count ≡ Ok (length text) = sym is ∙ line_counted in cc

    pub line_closed : (buffer : List ℕ) → answer ≡ held_answer buffer at.state.held → (number : ℕ) → number ≡ next_number at.state.number
        → Closed at buffer out (record { state = record { number = number; held = 0 }; taken = at.taken + 1; written = at.written + count }) out'
    line_closed buffer a number n =
        record {
          short = subst (λ (x : FrameAnswer). length (text_of at.state.number x) ≤ room) a w.short;
          stands =
              ap₂ (λ (next : ℕ) (more : ℕ). record { state = record { number = next; held = 0 }; taken = at.taken + 1; written = at.written + more }) n
              (count_one ∙ ap (λ (x : FrameAnswer). length (text_of at.state.number x)) a);
          wrote = line_left at.state.number answer out at.written (written result) out' h w ∙ ap (λ (x : FrameAnswer). put out at.written (text_of at.state.number x)) a;
        }

-- behind the last chunk: no line is open, or one that is written
module _ (state : State) (out : List ℕ) where
  pub finished_none : state.held ≡ 0 → Finished state out (Complete 0) out
  unfolding decided
  finished_none e =
      let t = eq-eqb state.held 0 e in
      let z : ltb (length out) (0 + 0) ≡ false = le-ltb (length out) (0 + 0) (omega arith) in
      record { said = rw (t, z); left = rw (t, z) (sym (put_none out 0)) }

-- an open line's report line has room where any has
pub open_short : (number held : ℕ) → number < 2 ^ 64 → length (open_held number held) ≤ room
open_short number held h =
    let answer : FrameAnswer = record { kind = Unknown; outcome = Open } in
    by_test (λ (text : List ℕ). length text ≤ room) (eqb held 0) [] (text_of number answer) (λ _. omega arith)
    (λ _. omega (arith, length_text number answer, decimal_short number h, decimal_short 0 (omega arith)))
