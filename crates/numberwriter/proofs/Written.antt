-- A value's octets written: the loop that puts them from the last one back, and that drawing them gives the value. Assumes nothing.
use Prim.Native.Nat.{ℕ, zero, suc, ◌+◌, ◌-◌, ◌/◌, ◌%◌, ◌≤◌, ◌<◌}
use mathlib.Core.Path.{◌≡◌, refl, ◌∙◌, ap}
use mathlib.Core.Bool.{Bool, true}
use mathlib.Core.List.{List, [], ◌∷◌, ◌++◌, append_assoc}
use native.Mathlib.Omega.{arith}
use native.Mathlib.Nat.{add-suc, add-zero}
use borrow.Author.Tests.{ltb-false}
use lib.ListN.{length, drop, set, length-append}
use Rattle.verdict.specs.declared.Verdict.TheVariants.{Complete}
use Rattle.verdict.specs.Writing.{put, room_rows, WrittenBy}
use Rattle.verdict.proofs.Putting.{put_one, put_before, length_put, drop_put}
use Rattle.verdict.proofs.Deciding.{written_well}
use Rattle.number.specs.Draw.{drawn_number, draw_at}
use Rattle.number.specs.Octets.{high, octets}
use Rattle.number.proofs.Octets.{octets_some, octets_drawn}
use Rattle.number.proofs.Counts.{octets_last, high_last, length_octets, length_high, length_high_none}

-- ---- the loop

-- a value's octets are stored but for the first `left`, which are those of `rest`
pub record Stored (out₀ : List ℕ) (place value left rest : ℕ) (out : List ℕ) : Type 0 where
  pub behind : List ℕ
  pub parts : octets value ≡ high rest ++ behind
  pub counted : length (high rest) ≡ left
  pub fewer : left < length (octets value)
  pub is : out ≡ put out₀ (place + left) behind

none_of_length : (l : List ℕ) → length l ≡ 0 → l ≡ []
none_of_length [] e = refl
none_of_length (x ∷ l) e = absurd (omega arith)

high_some : (v k : ℕ) → length (high v) ≡ suc k → 0 < v
high_some zero k e = absurd (omega (arith, length_high_none))
high_some (suc v) k e = omega arith

module _ (out₀ : List ℕ) (place value : ℕ) (room : place + length (octets value) ≤ length out₀) where
  pub stored_last : (left : ℕ) → left + 1 ≡ length (octets value) → Stored out₀ place value left (value / 128) (set out₀ (place + left) (value % 128))
  stored_last left e =
      record {
        behind = value % 128 ∷ [];
        parts = octets_last value;
        counted = omega (arith, length_octets value);
        fewer = omega arith;
        is = put_one out₀ (place + left) (value % 128) (omega arith);
      }

  pub stored_more : (left rest : ℕ) (out : List ℕ) → Stored out₀ place value (suc left) rest out → Stored out₀ place value left (rest / 128) (set out (place + left) (128 + rest % 128))
  stored_more left rest out s =
      let octet = 128 + rest % 128 in
      let some : 0 < rest = high_some rest left s.counted in
      let whole : length (octets value) ≡ suc left + length s.behind = rw (s.parts, length-append, s.counted) in
      record {
        behind = octet ∷ s.behind;
        parts = s.parts ∙ rw (high_last rest some) (append_assoc (high (rest / 128)) (octet ∷ []) s.behind);
        counted = omega (arith, length_high rest some, s.counted);
        fewer = omega (arith, s.fewer);
        is =
            ap (λ (bs : List ℕ). set bs (place + left) octet) s.is
            ∙ rw add-suc (put_before out₀ (place + left) s.behind octet (omega arith));
      }

  pub stored_all : (left rest : ℕ) (out : List ℕ) → left ≡ 0 → Stored out₀ place value left rest out → out ≡ put out₀ place (octets value)
  stored_all left rest out e s = s.is ∙ rw (s.parts, none_of_length (high rest) (s.counted ∙ e), e, add-zero)

  pub stored_length : (left rest : ℕ) (out : List ℕ) → Stored out₀ place value left rest out → length out ≡ length out₀
  stored_length left rest out s =
      let whole : length (octets value) ≡ left + length s.behind = rw (s.parts, length-append, s.counted) in
      ap length s.is ∙ length_put out₀ (place + left) s.behind (omega arith)

-- ---- what was written

-- drawing what was written gives the value, and the place behind it
pub written_drawn : (value : ℕ) (out : List ℕ) (place n : ℕ) (out' : List ℕ) (positive : Bool) (most : ℕ) → WrittenBy (room_rows (length (octets value)) (length out - place)) (octets value) out place (Complete n) out'
    → (positive ≡ true → 0 < value) → value ≤ most → draw_at out' place positive most ≡ drawn_number value (place + n)
written_drawn value out place n out' positive most w p h =
    let x = written_well (room_rows (length (octets value)) (length out - place)) (octets value) out place n out' w in
    let room : length (octets value) ≤ length out - place = ltb-false (length out - place) (length (octets value)) x.0.0 in
    let inside : place ≤ length out = omega (arith, octets_some value) in
    rw (x.1.1, x.1.0, drop_put out place (octets value) inside) (octets_drawn value place positive most (drop (place + length (octets value)) out) p h)
