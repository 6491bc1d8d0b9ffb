-- Lent lists: values put over their first entries one after the other, and that they stay where a call is not complete. Assumes nothing.
use Prim.Native.Nat.{ℕ, suc, ◌+◌, ◌<◌}
use mathlib.Core.Path.{◌≡◌, refl}
use mathlib.Core.Bool.{Bool, true}
use mathlib.Core.List.{List}
use native.Mathlib.Numerals.{add-one}
use native.Mathlib.Omega.{arith}
use lib.ListN.{length, take, drop, get_or, set}
use lib.Seq.{take-suc, drop-cons, set_at, append_snoc, length-take-le}
use Rattle.verdict.specs.declared.Reason.TheVariants.{SmallBuffer}
use Rattle.verdict.specs.declared.Refusal.{Refusal}
use Rattle.verdict.specs.declared.Verdict.TheVariants.{Complete, Unfinished, Refused}
use Rattle.verdict.specs.Writing.{refusing}
use Rattle.verdict.specs.Lent.{over, said_for, left_for}
use Rattle.verdict.specs.Filling.{over_first}

over_more : {A : Type 0} (d : A) (values out : List A) (i : ℕ) → i < length values → i < length out → set (over_first i values out) i (get_or values i d) ≡ over_first (i + 1) values out
over_more d values out i h k =
    rw (add-one, take-suc values i d h, drop-cons out i d k, append_snoc)
    (set_at (take i values) (get_or out i d) (drop (suc i) out) (get_or values i d) i (length-take-le i values (omega arith)))

-- a list whose first entries are filled
module _ {A : Type 0} (values out₀ out : List A) (i : ℕ) (is : out ≡ over_first i values out₀) where
  -- one entry more
  pub filled_more : (d value : A) → i < length values → i < length out₀ → value ≡ get_or values i d → set out i value ≡ over_first (i + 1) values out₀
  filled_more d value h k e = rw (is, e) (over_more d values out₀ i h k)

-- the same values over the same list
pub over_same : {A : Type 0} (values others out left : List A) → left ≡ over others out → values ≡ others → left ≡ over values out
over_same values others out left e same = rw same e

-- ---- a call that is not complete changes nothing

module _ {A : Type 0} (values out : List A) where
  -- a verdict other than complete is answered whatever room there is
  pub unfinished_kept : (missing : ℕ) (short : Bool) → (said_for (Unfinished missing) short ≡ Unfinished missing) × (left_for (said_for (Unfinished missing) short) values out ≡ out)
  unfinished_kept missing short = (refl, refl)

  pub refused_kept : (refusal : Refusal) (short : Bool) → (said_for (Refused refusal) short ≡ Refused refusal) × (left_for (said_for (Refused refusal) short) values out ≡ out)
  refused_kept refusal short = (refl, refl)

  -- then 13
  pub short_kept : (n : ℕ) → (said_for (Complete n) true ≡ refusing SmallBuffer) × (left_for (said_for (Complete n) true) values out ≡ out)
  short_kept n = (refl, refl)
