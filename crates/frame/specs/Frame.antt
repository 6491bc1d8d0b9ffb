-- What a frame's bytes are answered: the checks of document 01 in their order, then the pack's own verdict.
use Rattle.std.specs.Prelude.{ℕ, ◌+◌, Bool, true, false, ◌&&◌, cond, List, [], ◌∷◌, length, take, drop, eqb, ltb, Result, Ok as ResultOk, Err}
use Rattle.verdict.specs.declared.Reason.TheVariants.{UnknownKey, LengthForm, LengthDiffers, FrameShort, FrameLong}
use Rattle.verdict.specs.declared.Verdict.{Verdict}
use Rattle.verdict.specs.declared.Verdict.TheVariants.{Complete, Unfinished, Refused}
use Rattle.matrix.specs.Meaning.{stating}
use Rattle.matrix.specs.Machine.{verdict_of as matrixVerdict}
use Rattle.array.specs.Machine.{verdict_of as arrayVerdict}
use Rattle.outcome.specs.declared.Kind.{Kind}
use Rattle.outcome.specs.declared.Kind.TheVariants.{Matrix, Array, Unknown}
use Rattle.outcome.specs.declared.Outcome.{Outcome}
use Rattle.outcome.specs.declared.Outcome.TheVariants.{Ok, Cut, Bad}
use Rattle.outcome.specs.declared.FrameAnswer.{FrameAnswer}
use Rattle.outcome.specs.Refusing.{refusing}
use Rattle.berlength.specs.declared.Length.{Length}
use Rattle.berlength.specs.declared.NoLength.{NoLength}
use Rattle.berlength.specs.declared.NoLength.TheVariants.{Missing, WrongForm}
use Rattle.berlength.specs.Lengths.{length_of}

-- the greatest count of a frame's bytes
abbrev pub longest : ℕ
longest = 32832

-- ---- the key

-- the key of matrices
abbrev pub matrix_key : List ℕ
matrix_key = 0x06 ∷ 0x0E ∷ 0x2B ∷ 0x34 ∷ 0x02 ∷ 0x05 ∷ 0x01 ∷ 0x01 ∷ 0x0E ∷ 0x01 ∷ 0x03 ∷ 0x03 ∷ 0x21 ∷ 0x00 ∷ 0x00 ∷ 0x00 ∷ []

-- the key of arrays
abbrev pub array_key : List ℕ
array_key = 0x06 ∷ 0x0E ∷ 0x2B ∷ 0x34 ∷ 0x02 ∷ 0x05 ∷ 0x01 ∷ 0x01 ∷ 0x0E ∷ 0x01 ∷ 0x03 ∷ 0x03 ∷ 0x06 ∷ 0x00 ∷ 0x00 ∷ 0x00 ∷ []

-- whether two lists are the same
unfoldable pub same : List ℕ → List ℕ → Bool
same [] [] = true
same [] (y ∷ ys) = false
same (x ∷ xs) [] = false
same (x ∷ xs) (y ∷ ys) = eqb x y && same xs ys

-- the kind that a key names
abbrev pub kind_of : List ℕ → Kind
kind_of key = cond (same key matrix_key) Matrix (cond (same key array_key) Array Unknown)

-- ---- the answer

-- a pack's verdict on a value of so many bytes: 23 if it is complete before the value ends
abbrev pub outcome_of : Verdict → ℕ → Outcome
outcome_of (Complete n) count = cond (eqb n count) (Ok n) (Bad (record { reason = LengthDiffers; place = 0 }))
outcome_of (Unfinished missing) count = Cut missing
outcome_of (Refused refusal) count = Bad refusal

-- the value behind a key; Mode 1's deviations are IEEE
abbrev pub value_answer : Kind → List ℕ → FrameAnswer
value_answer Matrix value = record { kind = Matrix; outcome = outcome_of (matrixVerdict (stating false) value) (length value) }
value_answer Array value = record { kind = Array; outcome = outcome_of (arrayVerdict value) (length value) }
value_answer Unknown value = refusing Unknown UnknownKey

-- behind a length of this form: 24 cut, 22 its form, 23 another count of bytes than it states
abbrev pub length_answer : Kind → Result Length NoLength → List ℕ → FrameAnswer
length_answer kind (Err Missing) w = refusing kind FrameShort
length_answer kind (Err WrongForm) w = refusing kind LengthForm
length_answer kind (ResultOk stated) w = cond (eqb (length w) (stated.octets + stated.value)) (value_answer kind (drop stated.octets w)) (refusing kind LengthDiffers)

-- behind a key: 21 where it is not known
abbrev pub key_answer : Kind → List ℕ → FrameAnswer
key_answer Matrix w = length_answer Matrix (length_of w) w
key_answer Array w = length_answer Array (length_of w) w
key_answer Unknown w = refusing Unknown UnknownKey

-- the answer to a frame's bytes: 25 more than the longest, 24 fewer than a key
abbrev pub answer_of : List ℕ → FrameAnswer
answer_of bytes =
    cond (ltb longest (length bytes)) (refusing Unknown FrameLong)
    (cond (ltb (length bytes) 16) (refusing Unknown FrameShort) (key_answer (kind_of (take 16 bytes)) (drop 16 bytes)))
