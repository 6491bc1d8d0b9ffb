-- What a line of hexadecimal is answered, and how lines are numbered.
use Rattle.std.specs.Prelude.{ℕ, ◌+◌, min, cond, List, length, ltb}
use Rattle.verdict.specs.declared.Reason.TheVariants.{Character, FrameLong}
use Rattle.outcome.specs.declared.Kind.TheVariants.{Unknown}
use Rattle.outcome.specs.declared.FrameAnswer.{FrameAnswer}
use Rattle.outcome.specs.Refusing.{refusing}
use Rattle.frame.specs.Frame.{answer_of}
use Rattle.hexpairs.specs.Hex.{is_hex, hex_of}
use Rattle.lines.specs.Taking.{longest_line}

-- the answer to a line: 25 more characters than the longest, 20 another character or an odd count, then the frame's
abbrev pub line_answer : List ℕ → FrameAnswer
line_answer text =
    cond (ltb longest_line (length text)) (refusing Unknown FrameLong)
    (cond (is_hex text) (answer_of (hex_of text)) (refusing Unknown Character))

-- the number of the next line; it stays at the greatest that is counted, past the end of any file
abbrev pub next_number : ℕ → ℕ
next_number number = min (number + 1) 0xFFFFFFFFFFFFFFFF
