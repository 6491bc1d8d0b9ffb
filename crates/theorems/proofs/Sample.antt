-- Document 01's sample of the report, both keys, and the greatest counts of a frame's bytes and a line's characters on both sides, against the definitions. Assumes nothing.
use Prim.Native.Nat.{ℕ, zero, suc}
use mathlib.Core.Path.{◌≡◌, refl, sym, ap, ◌∙◌}
use mathlib.Core.Bool.{Bool, true, not, ◌&&◌, and-eq-true_iff, false≢true}
use mathlib.Core.List.{List, [], ◌∷◌}
use native.Mathlib.Omega.{arith}
use borrow.Author.Tests.{eq-eqb}
use lib.Dec.{eqb}
use lib.ListN.{replicate, get_or}
use Rattle.verdict.specs.declared.Reason.TheVariants.{UnknownKey, Character, FrameLong}
use Rattle.verdict.specs.Machine.{run}
use Rattle.verdict.specs.Rows.{judged}
use Rattle.word.specs.Digits.{digits}
use Rattle.matrix.specs.Meaning.{sum}
use Rattle.matrix.specs.Machine.{enter, run_bytes}
use Rattle.outcome.specs.declared.Kind.TheVariants.{Matrix, Array, Unknown}
use Rattle.frame.specs.Frame.{matrix_key, array_key, same, kind_of, answer_of}
use Rattle.outcome.specs.Refusing.{refusing}
use Rattle.hexpairs.specs.Hex.{is_hex, hex_of}
use Rattle.text.specs.Text.{decimal_in, decimal}
use Rattle.report.specs.Line.{line_answer}
use Rattle.theorems.specs.Report.{report_of, closed, answers, Unclosed}
use Rattle.theorems.proofs.Lines.{lines_report}
use Rattle.theorems.specs.Sample.{line1, line2, line3, line4, said1, said2, said3, said4}

-- ---- the sample

-- whether no character is LF
abbrev clear : List ℕ → Bool
clear [] = true
clear (c ∷ line) = not (eqb c 10) && clear line

clear_unclosed : (line : List ℕ) → clear line ≡ true → Unclosed line
clear_unclosed [] e i h = omega arith
clear_unclosed (c ∷ line) e i h = at i ((and-eq-true_iff (not (eqb c 10)) (clear line)).0 e) h (λ k. clear_unclosed line k)
  where
    at : (i : ℕ) → (not (eqb c 10) ≡ true) × (clear line ≡ true) → get_or (c ∷ line) i 0 ≡ 10 → (clear line ≡ true → Unclosed line) → ⊥
    at zero k h ih = false≢true (sym (ap not (eq-eqb c 10 h)) ∙ k.0)
    at (suc i) k h ih = ih k.1 i h

each_clear : (i : ℕ) → Unclosed (get_or (line1 ∷ line2 ∷ line3 ∷ []) i [])
each_clear zero = clear_unclosed line1 refl
each_clear (suc zero) = clear_unclosed line2 refl
each_clear (suc (suc zero)) = clear_unclosed line3 refl
each_clear (suc (suc (suc i))) = clear_unclosed [] refl

-- the answers to its lines are those of document 01
sample_answered : answers 1 (line1 ∷ line2 ∷ line3 ∷ []) line4 ≡ closed (said1 ∷ said2 ∷ said3 ∷ said4 ∷ []) []
unfolding answers closed is_hex hex_of same run judged enter run_bytes sum digits decimal decimal_in
sample_answered = refl

-- three lines and an open fourth are reported as document 01 has it
pub sample_reported : report_of (closed (line1 ∷ line2 ∷ line3 ∷ []) line4) ≡ closed (said1 ∷ said2 ∷ said3 ∷ said4 ∷ []) []
sample_reported = lines_report (line1 ∷ line2 ∷ line3 ∷ []) line4 each_clear (clear_unclosed line4 refl) ∙ sample_answered

-- ---- the keys

-- the kinds of both keys, of a key with another last byte, and of one byte less
pub keys_named : (kind_of matrix_key ≡ Matrix) × (kind_of array_key ≡ Array) × (kind_of (0x06 ∷ 0x0E ∷ 0x2B ∷ 0x34 ∷ 0x02 ∷ 0x05 ∷ 0x01 ∷ 0x01 ∷ 0x0E ∷ 0x01 ∷ 0x03 ∷ 0x03 ∷ 0x21 ∷ 0x00 ∷ 0x00 ∷ 0x01 ∷ []) ≡ Unknown) × (kind_of (0x06 ∷ 0x0E ∷ 0x2B ∷ 0x34 ∷ 0x02 ∷ 0x05 ∷ 0x01 ∷ 0x01 ∷ 0x0E ∷ 0x01 ∷ 0x03 ∷ 0x03 ∷ 0x22 ∷ 0x00 ∷ 0x00 ∷ 0x00 ∷ []) ≡ Unknown)
unfolding same
keys_named = (refl, refl, refl, refl)

-- ---- the greatest counts

-- 32,832 bytes of 0 are looked at, and have no known key; one more is 25
pub longest_frame : answer_of (replicate 32832 0) ≡ refusing Unknown UnknownKey
unfolding same
longest_frame = refl

pub longer_frame : answer_of (replicate 32833 0) ≡ refusing Unknown FrameLong
longer_frame = refl

-- 65,664 characters G are looked at, and are no digits; one more is 25
pub longest_line_lem : line_answer (replicate 65664 71) ≡ refusing Unknown Character
unfolding is_hex
longest_line_lem = refl

pub longer_line : line_answer (replicate 65665 71) ≡ refusing Unknown FrameLong
longer_line = refl
