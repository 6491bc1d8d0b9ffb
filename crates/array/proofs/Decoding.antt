-- The meaning that bytes have is the one that they spell. Assumes nothing.
use Prim.Native.Nat.{ℕ, ◌+◌, ◌*◌}
use mathlib.Core.Path.{◌≡◌, refl, sym, ap, ◌∙◌, subst}
use mathlib.Core.List.{List, [], ◌++◌, append_assoc}
use native.Mathlib.Omega.{arith}
use lib.ListN.{length, length-append}
use lib.Seq.{take_at}
use Rattle.number.specs.Octets.{high_in, high, octets, numbers}
use Rattle.number.proofs.Front.{front_octets, fronts_numbers}
use Rattle.array.specs.Meaning.{Array, product, Lawful}
use Rattle.array.specs.Spelling.{bytes_of, ArrayPack}
use Rattle.array.specs.Decoded.{meaning_of}

-- a lawful meaning is read back from its bytes, whatever is behind them
pub meaning_back : (a : Array) → Lawful a → (t : List ℕ) → meaning_of (bytes_of a ++ t) ≡ a
meaning_back a g t = simp (append_assoc, front_octets, fronts_numbers, take_at a.body t (product a.sizes * a.element) g.body_count)

-- lawful meanings with the same bytes are the same
pub meaning_one : (a b : Array) → Lawful a → Lawful b → bytes_of a ≡ bytes_of b → a ≡ b
meaning_one a b g h e = sym (meaning_back a g []) ∙ ap (λ (w : List ℕ). meaning_of (w ++ [])) e ∙ meaning_back b h []

-- the meaning that a pack has, whatever is behind it, is lawful and spells it
pub pack_meaning : (w t : List ℕ) → ArrayPack w → Lawful (meaning_of (w ++ t)) × (bytes_of (meaning_of (w ++ t)) ≡ w)
pack_meaning w t p =
    let e : meaning_of (w ++ t) ≡ p.meaning = ap (λ (b : List ℕ). meaning_of (b ++ t)) (sym p.spelled) ∙ meaning_back p.meaning p.lawful t in
    (subst Lawful (sym e) p.lawful, ap bytes_of e ∙ p.spelled)

processing_length : length (octets 1) ≡ 1
unfolding octets high high_in
processing_length = refl

-- how many bytes a lawful meaning takes
pub pack_length : (a : Array) → Lawful a → length (bytes_of a) ≡ length (octets (length a.sizes)) + (length (numbers a.sizes) + (length (octets a.element) + (1 + product a.sizes * a.element)))
pack_length a g = simp length-append (omega (arith, processing_length, g.body_count))
