-- The header of a matrix pack: how long it is, and that the fields are read back from it. Assumes nothing.
use Prim.Native.Nat.{ℕ, ◌≤◌}
use mathlib.Core.Path.{◌≡◌, refl}
use mathlib.Core.Bool.{Bool, true, false, cond}
use mathlib.Core.List.{List, [], ◌∷◌, ◌++◌}
use native.Mathlib.Omega.{arith}
use lib.ListN.{length, drop}
use lib.Seq.{drop_at}
use Rattle.verdict.proofs.Cases.{either}
use Rattle.matrix.specs.declared.Fields.{Fields}
use Rattle.matrix.specs.declared.Told.{Told}
use Rattle.matrix.specs.Meaning.{LawfulFirst, LawfulFields, Fits}
use Rattle.matrix.specs.Header.{control, control1, control2, first, second, single, in_mode1, header_of, header_bytes, fields_in, fields_of}
use Rattle.matrix.proofs.ControlBytes.{mode_two, second_back, control1_top, control_mode, single_back}

module _ (f : Fields) where
  -- one control byte in Mode 1, two in Mode 2
  pub header_one : f.mode1 ≡ true → header_bytes f ≡ 2
  unfolding header_bytes
  header_one e = rw e

  pub header_two : f.mode1 ≡ false → header_bytes f ≡ 3
  unfolding header_bytes
  header_two e = rw e

  -- the size and one control byte at least
  pub header_least : 2 ≤ header_bytes f
  header_least = either f.mode1 (λ e. omega (arith, header_one e)) (λ e. omega (arith, header_two e))

  pub header_most : header_bytes f ≤ 3
  header_most = either f.mode1 (λ e. omega (arith, header_one e)) (λ e. omega (arith, header_two e))

  pub header_length : length (header_of f) ≡ header_bytes f
  unfolding header_of header_bytes
  header_length = by f.mode1
    where
      by : (one : Bool) → length (f.n ∷ cond one (control f ∷ []) (control1 f ∷ control2 f ∷ [])) ≡ cond one 2 3
      by true = refl
      by false = refl

  -- what is behind the header
  pub header_behind : (w : List ℕ) → drop (header_bytes f) (header_of f ++ w) ≡ w
  header_behind w = drop_at (header_of f) w (header_bytes f) header_length

  -- the bytes of each mode
  pub header_single : f.mode1 ≡ true → header_of f ≡ f.n ∷ control f ∷ []
  unfolding header_of
  header_single e = rw e

  pub header_double : f.mode1 ≡ false → header_of f ≡ f.n ∷ control1 f ∷ control2 f ∷ []
  unfolding header_of
  header_double e = rw e

-- Mode 2's control byte 1 is not Mode 1's
pub control1_mode : (told : Told) (f : Fields) → LawfulFirst f → in_mode1 told (control1 f) ≡ false
control1_mode told f g = mode_two told (control1 f) (control1_top f g)

-- the fields that bytes have, by the mode that they tell
pub fields_single : (told : Told) (n c d : ℕ) → in_mode1 told c ≡ true → fields_in told n c d ≡ single told n c
fields_single told n c d t = rw t refl

pub fields_double : (told : Told) (n c d : ℕ) → in_mode1 told c ≡ false → fields_in told n c d ≡ second (first n c) d
fields_double told n c d t = rw t refl

-- lawful fields are read back from their header, whatever is behind it
pub header_back : (told : Told) (f : Fields) → LawfulFields f → Fits told f → (w : List ℕ) → fields_of told (header_of f ++ w) ≡ f
header_back told f g fits w =
    either f.mode1
    (λ e. rw (header_single f e, control_mode told f (fits e)) (single_back told f (fits e) e))
    (λ e. rw (header_double f e, control1_mode told f g.first) (second_back f g e))
