-- The report on an input: its lines, each closed by LF, with their answers, and an open last line; and the lines that spell a frame.
use Rattle.std.specs.Prelude.{ℕ, ◌≡◌, cond, List, [], ◌∷◌, ◌++◌, eqb, get_or}
use Rattle.verdict.specs.Says.{Bytes}
use Rattle.outcome.specs.declared.Kind.{Kind}
use Rattle.outcome.specs.declared.Kind.TheVariants.{Unknown}
use Rattle.outcome.specs.declared.Outcome.TheVariants.{Open}
use Rattle.hexpairs.specs.Hex.{spelling}
use Rattle.text.specs.Text.{text_of}
use Rattle.report.specs.Line.{line_answer, next_number}
use Rattle.theorems.specs.Framed.{FrameOf}

-- a last line without LF is open and not examined; behind the last LF there is none
abbrev pub open_text : ℕ → List ℕ → List ℕ
open_text number [] = []
open_text number (c ∷ line) = text_of number (record { kind = Unknown; outcome = Open })

-- the report on what follows these characters of the line of this number
unfoldable pub report_from : ℕ → List ℕ → List ℕ → List ℕ
report_from number line [] = open_text number line
report_from number line (c ∷ input) =
    cond (eqb c 10) (text_of number (line_answer line) ++ report_from (next_number number) [] input) (report_from number (line ++ (c ∷ [])) input)

-- from its first line on
abbrev pub report_of : List ℕ → List ℕ
report_of input = report_from 1 [] input

-- lines, each closed by LF, and behind them a last one that is not
unfoldable pub closed : List (List ℕ) → List ℕ → List ℕ
closed [] last = last
closed (line ∷ lines) last = line ++ (10 ∷ closed lines last)

-- a report line for each, in their order
unfoldable pub answers : ℕ → List (List ℕ) → List ℕ → List ℕ
answers number [] last = open_text number last
answers number (line ∷ lines) last = text_of number (line_answer line) ++ answers (next_number number) lines last

-- no character of a line is LF
abbrev pub Unclosed : List ℕ → Type 0
Unclosed line = (i : ℕ) → get_or line i 0 ≡ 10 → ⊥

-- a line that spells a frame of a kind with a pack of so many bytes
pub record FrameLine (kind : Kind) (n : ℕ) (text : List ℕ) : Type 0 where
  pub bytes : List ℕ
  pub below : Bytes bytes
  pub frame : FrameOf kind n bytes
  pub spelled : text ≡ spelling bytes
