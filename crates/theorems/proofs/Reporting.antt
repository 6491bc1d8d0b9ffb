-- However an input is cut into chunks, what feeding them writes is the report on the whole. Assumes nothing.
use Prim.Native.Nat.{ℕ, zero, suc, ◌+◌, ◌-◌, ◌≤◌, ◌<◌, min}
use mathlib.Core.Path.{◌≡◌, refl, sym, ap, ◌∙◌}
use mathlib.Core.List.{List, [], ◌∷◌, ◌++◌, append_assoc, append-nil}
use native.Mathlib.Omega.{arith}
use borrow.Author.Tests.{lt-ltb, le-ltb, ltb-true, ltb-false, eq-eqb, ne_eqb}
use lib.Dec.{eqb, ltb}
use lib.ListN.{length, take, set, length-append, length-set}
use Rattle.verdict.proofs.Cases.{by_test, either}
use Rattle.outcome.specs.declared.FrameAnswer.{FrameAnswer}
use Rattle.lines.specs.Taking.{longest_line, kept, held_on}
use Rattle.report.specs.Line.{line_answer, next_number}
use Rattle.text.specs.Text.{text_of}
use Rattle.text.specs.Writing.{room}
use Rattle.report.specs.Feeding.{held_answer, Came, came_of, open_held}
use Rattle.theorems.specs.Report.{open_text, report_from, report_of}
use Rattle.theorems.specs.Calls.{Calls, none, more}

-- a line buffer holds a line: its characters, or the mark that it ran over
record Holds (held : ℕ) (buffer line : List ℕ) : Type 0 where
  long : longest_line ≤ length buffer
  count : held ≡ min (length line) (longest_line + 1)
  same : length line ≤ longest_line → take held buffer ≡ line

holds_none : (buffer : List ℕ) → longest_line ≤ length buffer → Holds 0 buffer []
holds_none buffer h = record { long = h; count = omega arith; same = λ _. refl }

-- with one character more
take_set_last : (buffer : List ℕ) (n c : ℕ) → n < length buffer → take (suc n) (set buffer n c) ≡ take n buffer ++ (c ∷ [])
take_set_last [] n c h = absurd (omega arith)
take_set_last (x ∷ buffer) zero c h = refl
take_set_last (x ∷ buffer) (suc n) c h = ap (λ (l : List ℕ). x ∷ l) (take_set_last buffer n c (omega arith))

holds_more : (held : ℕ) (buffer line : List ℕ) (c : ℕ) → Holds held buffer line → Holds (held_on held) (kept buffer held c) (line ++ (c ∷ []))
holds_more held buffer line c h =
    let l : length (line ++ (c ∷ [])) ≡ length line + 1 = length-append line (c ∷ []) in
    either (ltb held longest_line)
    (λ t. let b = ltb-true held longest_line t in
    let n : held + 1 ≡ suc held = omega arith in
    record {
      long = rw (t, length-set) h.long;
      count = omega (arith, h.count);
      same = λ _. let e : held_on held ≡ suc held = omega arith in rw (e, t) (take_set_last buffer held c (omega (arith, h.long)) ∙ ap (λ (w : List ℕ). w ++ (c ∷ [])) (h.same (omega (arith, h.count))));
    })
    (λ t. let b = ltb-false held longest_line t in
    record { long = rw t h.long; count = omega (arith, h.count); same = λ k. absurd (omega (arith, h.count)) })

-- the answer to what is held is the line's
holds_answer : (held : ℕ) (buffer line : List ℕ) → Holds held buffer line → held_answer buffer held ≡ line_answer line
holds_answer held buffer line h =
    either (ltb longest_line (length line))
    (λ t. rw (lt-ltb longest_line held (omega (arith, ltb-true longest_line (length line) t, h.count)), t))
    (λ t. let b = ltb-false longest_line (length line) t in rw (le-ltb longest_line held (omega (arith, h.count)), h.same b))

-- what came of a chunk: the line that is held then, and the report goes on behind what was taken
record Reported (number : ℕ) (line chunk : List ℕ) (came : Came) : Type 0 where
  now_held : List ℕ
  holds : Holds came.held came.buffer now_held
  goes_on : (rest : List ℕ) → report_from number line (take came.taken chunk ++ rest) ≡ came.text ++ report_from came.number now_held rest

came_reported : (chunk : List ℕ) (number held left : ℕ) (buffer line : List ℕ) → Holds held buffer line → Reported number line chunk (came_of number held buffer left chunk)
unfolding came_of report_from
came_reported [] number held left buffer line h = record { now_held = line; holds = h; goes_on = λ rest. refl }
came_reported (c ∷ chunk) number held left buffer line h =
    let text = text_of number (held_answer buffer held) in
    let next = came_of (next_number number) 0 buffer (left - length text) chunk in
    let closed = came_reported chunk (next_number number) 0 (left - length text) buffer [] (holds_none buffer h.long) in
    let onward = came_reported chunk number (held_on held) left (kept buffer held c) (line ++ (c ∷ [])) (holds_more held buffer line c h) in
    by_test (Reported number line (c ∷ chunk)) (eqb c 10) _ _
    (λ e. by_test (Reported number line (c ∷ chunk)) (ltb left room) _ _
    (λ _. record { now_held = line; holds = h; goes_on = λ rest. refl })
    (λ _. record {
      now_held = closed.now_held;
      holds = closed.holds;
      goes_on = λ rest. rw e
          (ap (λ (a : FrameAnswer). text_of number a ++ report_from (next_number number) [] (take next.taken chunk ++ rest)) (sym (holds_answer held buffer line h))
          ∙ ap (λ (w : List ℕ). text ++ w) (closed.goes_on rest)
          ∙ sym (append_assoc text next.text (report_from next.number closed.now_held rest)));
    }))
    (λ e. record { now_held = onward.now_held; holds = onward.holds; goes_on = λ rest. rw e (onward.goes_on rest) })

-- where calls have led: the report on what they took, and on anything behind it
record Led (number held : ℕ) (buffer input output : List ℕ) : Type 0 where
  line : List ℕ
  holds : Holds held buffer line
  goes_on : (rest : List ℕ) → report_of (input ++ rest) ≡ output ++ report_from number line rest

calls_led : {number held : ℕ} {buffer input output : List ℕ} → Calls number held buffer input output → Led number held buffer input output
calls_led (none {buffer} h) = record { line = []; holds = holds_none buffer h; goes_on = λ rest. refl }
calls_led (more {number} {held} {buffer} {input} {output} calls chunk left came e) =
    let before = calls_led calls in
    let next : Reported number before.line chunk came = rw e (came_reported chunk number held left buffer before.line before.holds) in
    record {
      line = next.now_held;
      holds = next.holds;
      goes_on =
          λ rest. ap report_of (append_assoc input (take came.taken chunk) rest) ∙ before.goes_on (take came.taken chunk ++ rest)
          ∙ ap (λ (w : List ℕ). output ++ w) (next.goes_on rest) ∙ sym (append_assoc output came.text (report_from came.number next.now_held rest));
    }

open_held_lem : (number held : ℕ) (buffer line : List ℕ) → Holds held buffer line → open_text number line ≡ open_held number held
open_held_lem number held buffer [] h = rw (eq-eqb held 0 (omega (arith, h.count)))
open_held_lem number held buffer (c ∷ line) h = rw (ne_eqb held 0 (λ z. omega (arith, h.count)))

-- however the input was cut, what the calls wrote and what finishing writes is the report on the whole
pub calls_report : {number held : ℕ} {buffer input output : List ℕ} → Calls number held buffer input output → output ++ open_held number held ≡ report_of input
unfolding report_from
calls_report {number} {held} {buffer} {input} {output} calls =
    let led = calls_led calls in
    sym (ap report_of (sym (append-nil input)) ∙ led.goes_on [] ∙ ap (λ (w : List ℕ). output ++ w) (open_held_lem number held buffer led.line led.holds))
