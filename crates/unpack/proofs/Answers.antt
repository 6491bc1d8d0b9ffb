-- What unpacking and expanding a whole pack answer and leave, by whether there is room. Assumes nothing.
use Prim.Native.Nat.{ℕ}
use mathlib.Core.Path.{◌≡◌}
use mathlib.Core.Bool.{true, false}
use mathlib.Core.List.{List}
use Rattle.verdict.specs.declared.Reason.TheVariants.{SmallBuffer}
use Rattle.verdict.specs.declared.Verdict.{Verdict}
use Rattle.verdict.specs.declared.Verdict.TheVariants.{Complete, Refused}
use Rattle.matrixwalk.specs.declared.Found.{Found}
use Rattle.matrix.specs.Expanded.{expanded_words, expanded_marks}
use Rattle.unpack.specs.Unpacking.{unpack_short, UnpackedFor, expand_short, ExpandedFor}
use Rattle.verdict.specs.Lent.{over}
use Rattle.unpack.specs.Found.{meaning_found}

module _ (bytes : List ℕ) (found : Found) (deviations coefficients marks : List ℕ) where
  pub unpacked_short : (answer : Verdict) → answer ≡ Refused (record { reason = SmallBuffer; place = 0 }) → unpack_short found.fields.n deviations coefficients marks ≡ true
      → UnpackedFor (Complete found.length) (meaning_found bytes found) deviations coefficients marks answer deviations coefficients marks
  unpacked_short answer a e = record { said = rw e a; left_deviations = rw e; left_coefficients = rw e; left_marks = rw e }

  pub unpacked_whole : (deviations' coefficients' marks' : List ℕ) → unpack_short found.fields.n deviations coefficients marks ≡ false
      → deviations' ≡ over (meaning_found bytes found).deviations deviations → coefficients' ≡ over (meaning_found bytes found).coefficients coefficients → marks' ≡ over (meaning_found bytes found).marks marks
      → UnpackedFor (Complete found.length) (meaning_found bytes found) deviations coefficients marks (Complete found.length) deviations' coefficients' marks'
  unpacked_whole deviations' coefficients' marks' e d c m = record { said = rw e; left_deviations = rw e d; left_coefficients = rw e c; left_marks = rw e m }

module _ (bytes : List ℕ) (found : Found) (words marks : List ℕ) where
  pub expanded_short : (answer : Verdict) → answer ≡ Refused (record { reason = SmallBuffer; place = 0 }) → expand_short found.fields.n words marks ≡ true
      → ExpandedFor (Complete found.length) (meaning_found bytes found) words marks answer words marks
  expanded_short answer a e = record { said = rw e a; left_words = rw e; left_marks = rw e }

  pub expanded_whole : (words' marks' : List ℕ) → expand_short found.fields.n words marks ≡ false
      → (words' ≡ over (expanded_words (meaning_found bytes found)) words) × (marks' ≡ over (expanded_marks (meaning_found bytes found)) marks)
      → ExpandedFor (Complete found.length) (meaning_found bytes found) words marks (Complete found.length) words' marks'
  expanded_whole words' marks' e left = record { said = rw e; left_words = rw e left.0; left_marks = rw e left.1 }
