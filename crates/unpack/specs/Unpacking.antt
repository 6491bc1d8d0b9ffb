-- What unpacking and expanding answer, and what they leave in the lent lists: those change only where the answer is complete.
use Rattle.std.specs.Prelude.{ℕ, ◌*◌, ◌≡◌, Bool, ◌||◌, List, length, ltb}
use Rattle.verdict.specs.declared.Verdict.{Verdict}
use Rattle.verdict.specs.Lent.{said_for, left_for}
use Rattle.matrix.specs.declared.Told.{Told}
use Rattle.matrix.specs.Meaning.{Matrix, pairs}
use Rattle.matrix.specs.Spelling.{meaning_of}
use Rattle.matrix.specs.Machine.{verdict_of}
use Rattle.matrix.specs.Expanded.{expanded_words, expanded_marks}

-- N deviations, M coefficients and M marks have no room
abbrev pub unpack_short : ℕ → List ℕ → List ℕ → List ℕ → Bool
unpack_short n deviations coefficients marks = ltb (length deviations) n || (ltb (length coefficients) (pairs n) || ltb (length marks) (pairs n))

-- what unpacking a meaning gives, by the verdict on its bytes
pub record UnpackedFor (verdict : Verdict) (m : Matrix) (deviations coefficients marks : List ℕ) (answer : Verdict) (deviations' coefficients' marks' : List ℕ) : Type 0 where
  pub said : answer ≡ said_for verdict (unpack_short m.fields.n deviations coefficients marks)
  pub left_deviations : deviations' ≡ left_for (said_for verdict (unpack_short m.fields.n deviations coefficients marks)) m.deviations deviations
  pub left_coefficients : coefficients' ≡ left_for (said_for verdict (unpack_short m.fields.n deviations coefficients marks)) m.coefficients coefficients
  pub left_marks : marks' ≡ left_for (said_for verdict (unpack_short m.fields.n deviations coefficients marks)) m.marks marks

abbrev pub UnpackedBy : Told → List ℕ → List ℕ → List ℕ → List ℕ → Verdict → List ℕ → List ℕ → List ℕ → Type 0
UnpackedBy told bytes = UnpackedFor (verdict_of told bytes) (meaning_of told bytes)

-- N × N words and marks have no room
abbrev pub expand_short : ℕ → List ℕ → List ℕ → Bool
expand_short n words marks = ltb (length words) (n * n) || ltb (length marks) (n * n)

-- what expanding a meaning gives, by the verdict on its bytes
pub record ExpandedFor (verdict : Verdict) (m : Matrix) (words marks : List ℕ) (answer : Verdict) (words' marks' : List ℕ) : Type 0 where
  pub said : answer ≡ said_for verdict (expand_short m.fields.n words marks)
  pub left_words : words' ≡ left_for (said_for verdict (expand_short m.fields.n words marks)) (expanded_words m) words
  pub left_marks : marks' ≡ left_for (said_for verdict (expand_short m.fields.n words marks)) (expanded_marks m) marks

abbrev pub ExpandedBy : Told → List ℕ → List ℕ → List ℕ → Verdict → List ℕ → List ℕ → Type 0
ExpandedBy told bytes = ExpandedFor (verdict_of told bytes) (meaning_of told bytes)
