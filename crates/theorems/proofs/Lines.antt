-- A line is answered `OK` exactly where it spells a frame, and the report on lines is a report line for each. Assumes nothing.
use Prim.Native.Nat.{ℕ, suc, ◌≤◌}
use mathlib.Core.Path.{◌≡◌, sym, ap, ◌∙◌}
use mathlib.Core.Logic.{◌↔◌}
use mathlib.Core.List.{List, [], ◌∷◌, ◌++◌, append_assoc, append-nil}
use native.Mathlib.Omega.{arith}
use borrow.Author.Tests.{le-ltb, ne_eqb}
use lib.Dec.{ltb}
use lib.ListN.{length, get_or}
use Rattle.verdict.specs.declared.Reason.TheVariants.{Character, FrameLong}
use Rattle.verdict.proofs.Cases.{by_test}
use Rattle.outcome.specs.declared.Kind.{Kind}
use Rattle.outcome.specs.declared.Kind.TheVariants.{Unknown}
use Rattle.outcome.specs.declared.Outcome.TheVariants.{Ok}
use Rattle.outcome.specs.declared.FrameAnswer.{FrameAnswer}
use Rattle.frame.specs.Frame.{answer_of}
use Rattle.outcome.specs.Refusing.{refusing}
use Rattle.theorems.proofs.Framed.{refusing_other, frame_short, okay_frames}
use Rattle.hexpairs.specs.Hex.{is_hex, hex_of, spelling}
use Rattle.hexpairs.proofs.Spelling.{spelling_hex, hex_spelling, length_spelling, spelling_back, hex_bytes}
use Rattle.text.specs.Text.{text_of}
use Rattle.lines.specs.Taking.{longest_line}
use Rattle.report.specs.Line.{line_answer, next_number}
use Rattle.theorems.specs.Report.{open_text, report_from, report_of, closed, answers, Unclosed, FrameLine}

-- ---- one line

abbrev okay : Kind → ℕ → FrameAnswer
okay kind n = record { kind = kind; outcome = Ok n }

okay_spells : (kind : Kind) (n : ℕ) (text : List ℕ) → line_answer text ≡ okay kind n → FrameLine kind n text
okay_spells kind n text =
    by_test (λ (a : FrameAnswer). a ≡ okay kind n → FrameLine kind n text) (ltb longest_line (length text)) (refusing Unknown FrameLong) _ (λ _ e. absurd (refusing_other Unknown kind FrameLong n e))
    (λ _. by_test (λ (a : FrameAnswer). a ≡ okay kind n → FrameLine kind n text) (is_hex text) (answer_of (hex_of text)) (refusing Unknown Character)
    (λ h e.
    let below = hex_bytes text h in
    record { bytes = hex_of text; below = below; frame = (okay_frames kind n (hex_of text) below).0 e; spelled = sym (spelling_back text h) })
    (λ _ e. absurd (refusing_other Unknown kind Character n e)))

-- what spells a frame is no longer than the longest line, and pairs of digits
spells_okay : (kind : Kind) (n : ℕ) (text : List ℕ) → FrameLine kind n text → line_answer text ≡ okay kind n
spells_okay kind n text f =
    let w = f.bytes in
    let short : length (spelling w) ≤ longest_line = omega (arith, length_spelling w, frame_short kind w f.frame.frame) in
    ap line_answer f.spelled
    ∙ rw (le-ltb longest_line (length (spelling w)) short, spelling_hex w f.below, hex_spelling w) ((okay_frames kind n w f.below).1 f.frame)

pub okay_lines : (kind : Kind) (n : ℕ) (text : List ℕ) → (line_answer text ≡ record { kind = kind; outcome = Ok n }) ↔ FrameLine kind n text
okay_lines kind n text = (okay_spells kind n text, spells_okay kind n text)

-- ---- the report on lines

-- characters without LF go to the open line
line_held : (line held rest : List ℕ) (number : ℕ) → Unclosed line → report_from number held (line ++ rest) ≡ report_from number (held ++ line) rest
unfolding report_from
line_held [] held rest number none = rw append-nil
line_held (c ∷ line) held rest number none =
    rw (ne_eqb c 10 (none 0)) (line_held line (held ++ (c ∷ [])) rest number (λ i. none (suc i)) ∙ ap (λ (l : List ℕ). report_from number l rest) (append_assoc held (c ∷ []) line))

last_held : (last : List ℕ) (number : ℕ) → Unclosed last → report_from number [] last ≡ open_text number last
unfolding report_from
last_held last number none = ap (report_from number []) (sym (append-nil last)) ∙ line_held last [] [] number none

lines_from : (lines : List (List ℕ)) (last : List ℕ) (number : ℕ) → ((i : ℕ) → Unclosed (get_or lines i [])) → Unclosed last → report_from number [] (closed lines last) ≡ answers number lines last
unfolding closed answers report_from
lines_from [] last number none end = last_held last number end
lines_from (line ∷ lines) last number none end =
    line_held line [] (10 ∷ closed lines last) number (none 0) ∙ ap (λ (text : List ℕ). text_of number (line_answer line) ++ text) (lines_from lines last (next_number number) (λ i. none (suc i)) end)

-- the report on an input is a report line for each of its lines, and `OPEN` for a last line that is not closed
pub lines_report : (lines : List (List ℕ)) (last : List ℕ) → ((i : ℕ) → Unclosed (get_or lines i [])) → Unclosed last → report_of (closed lines last) ≡ answers 1 lines last
lines_report lines last none end = lines_from lines last 1 none end
