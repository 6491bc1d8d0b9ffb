-- Where the call inside has one answer, C has one number. Assumes nothing.
use Prim.Native.Nat.{ℕ}
use mathlib.Core.Path.{◌≡◌, ◌∙◌, sym, ap}
use Rattle.verdict.specs.declared.Verdict.{Verdict}
use Rattle.verdict.specs.Numbers.{packed_of}
use Rattle.listing.specs.Packed.{PackedBy}

pub packed_one : (May Must : Verdict → Type 0) (said : Verdict) → ((v : Verdict) → May v → v ≡ said) → ((v : Verdict) → Must v → v ≡ said) → (x y : ℕ) → PackedBy May x → PackedBy Must y → x ≡ y
packed_one May Must said may must x y p q = p.packed ∙ ap packed_of (may p.answer p.given ∙ sym (must q.answer q.given)) ∙ sym q.packed
