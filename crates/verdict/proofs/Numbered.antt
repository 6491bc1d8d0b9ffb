-- A reason's number is its own and at most 25; the packed number is the paper's for every verdict that occurs, and no two of those share one. Assumes nothing.
use Prim.Native.Nat.{ℕ, ◌≤◌}
use mathlib.Core.Path.{◌≡◌, refl, sym, ap, ap₂, ◌∙◌}
use mathlib.Core.List.{List, [], ◌∷◌}
use native.Mathlib.Omega.{arith}
use lib.Dec.{lit≤}
use lib.ListN.{get_or}
use Rattle.verdict.specs.declared.Reason.{Reason}
use Rattle.verdict.specs.declared.Reason.TheVariants.{Zero, TooLarge, PaddedNumber, Mode, Reserved, ValueLength, Sparse, SizeOne, Empty, VectorEnd, ValueRange, Processing, SmallBuffer, Disagree, Index, FormatAlone, Character, UnknownKey, LengthForm, LengthDiffers, FrameShort, FrameLong}
use Rattle.verdict.specs.declared.Verdict.{Verdict}
use Rattle.verdict.specs.declared.Verdict.TheVariants.{Complete, Unfinished, Refused}
use Rattle.verdict.specs.Numbers.{number_of, paper_of, packed_of, Occurs}

-- the reasons by their numbers; 0 and 17 to 19 are no reason's
reasons : List Reason
reasons =
    Zero ∷ Zero ∷ TooLarge ∷ PaddedNumber ∷ Mode ∷ Reserved ∷ ValueLength ∷ Sparse ∷ SizeOne ∷ Empty ∷ VectorEnd ∷ ValueRange ∷ Processing ∷ SmallBuffer
    ∷ Disagree ∷ Index ∷ FormatAlone ∷ Zero ∷ Zero ∷ Zero ∷ Character ∷ UnknownKey ∷ LengthForm ∷ LengthDiffers ∷ FrameShort ∷ FrameLong ∷ []

reason_known : (r : Reason) → (number_of r ≤ 25) × (get_or reasons (number_of r) Zero ≡ r)
unfolding reasons
reason_known Zero = (lit≤ tt, refl)
reason_known TooLarge = (lit≤ tt, refl)
reason_known PaddedNumber = (lit≤ tt, refl)
reason_known Mode = (lit≤ tt, refl)
reason_known Reserved = (lit≤ tt, refl)
reason_known ValueLength = (lit≤ tt, refl)
reason_known Sparse = (lit≤ tt, refl)
reason_known SizeOne = (lit≤ tt, refl)
reason_known Empty = (lit≤ tt, refl)
reason_known VectorEnd = (lit≤ tt, refl)
reason_known ValueRange = (lit≤ tt, refl)
reason_known Processing = (lit≤ tt, refl)
reason_known SmallBuffer = (lit≤ tt, refl)
reason_known Disagree = (lit≤ tt, refl)
reason_known Index = (lit≤ tt, refl)
reason_known FormatAlone = (lit≤ tt, refl)
reason_known Character = (lit≤ tt, refl)
reason_known UnknownKey = (lit≤ tt, refl)
reason_known LengthForm = (lit≤ tt, refl)
reason_known LengthDiffers = (lit≤ tt, refl)
reason_known FrameShort = (lit≤ tt, refl)
reason_known FrameLong = (lit≤ tt, refl)

pub number_small : (r : Reason) → number_of r ≤ 25
number_small r = (reason_known r).0

pub number_own : (r q : Reason) → number_of r ≡ number_of q → r ≡ q
number_own r q e = sym (reason_known r).1 ∙ ap (λ (n : ℕ). get_or reasons n Zero) e ∙ (reason_known q).1

pub packed_is_paper : (v : Verdict) → Occurs v → packed_of v ≡ paper_of v
packed_is_paper (Complete n) h = omega arith
packed_is_paper (Unfinished m) h = omega arith
packed_is_paper (Refused r) h = omega arith

pub packed_own : (u v : Verdict) → Occurs u → Occurs v → packed_of u ≡ packed_of v → u ≡ v
packed_own (Complete n) (Complete k) h g e = ap Complete (omega arith)
packed_own (Complete n) (Unfinished k) h g e = absurd (omega arith)
packed_own (Complete n) (Refused r) h g e = absurd (omega arith)
packed_own (Unfinished n) (Complete k) h g e = absurd (omega arith)
packed_own (Unfinished n) (Unfinished k) h g e = ap Unfinished (omega arith)
packed_own (Unfinished n) (Refused r) h g e = absurd (omega arith)
packed_own (Refused r) (Complete k) h g e = absurd (omega arith)
packed_own (Refused r) (Unfinished k) h g e = absurd (omega arith)
packed_own (Refused r) (Refused q) h g e =
    let n : number_of r.reason ≡ number_of q.reason = omega arith in
    let p : r.place ≡ q.place = omega arith in
    ap₂ (λ (x : Reason) (y : ℕ). Refused (record { reason = x; place = y })) (number_own r.reason q.reason n) p
