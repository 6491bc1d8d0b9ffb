-- What a whole pack that was found is read as, and how an element of it is addressed. Assumes nothing.
use Prim.Native.Nat.{ℕ, zero, suc, ◌+◌, ◌*◌, ◌≤◌, ◌<◌}
use mathlib.Core.Path.{◌≡◌, refl, sym, ap, ◌∙◌, subst}
use mathlib.Core.Logic.{◌≢◌}
use mathlib.Core.Bool.{true, false}
use mathlib.Core.List.{List}
use native.Mathlib.Omega.{arith}
use native.Mathlib.Numerals.{add-one}
use borrow.Author.Tests.{eqb-true, eqb-false, ltb-true, ltb-false}
use lib.Dec.{eqb, ltb}
use lib.ListN.{length, get_or, set, length-set, get_or-replicate, get_or-eq_default}
use lib.Seq.{get_or-set_same, get_or-set_other}
use Rattle.verdict.proofs.Cases.{either}
use Rattle.verdict.specs.declared.Reason.TheVariants.{Index}
use Rattle.std.specs.Prelude.{Result, Ok, Err, replicate}
use Rattle.std.proofs.lemmas.List.{ext_get_or}
use Rattle.verdict.specs.declared.Stop.TheVariants.{Refused}
use Rattle.verdict.specs.Says.{Bytes}
use Rattle.number.specs.declared.Number.{Number}
use Rattle.number.specs.declared.Undrawn.{Undrawn}
use Rattle.number.specs.declared.Numbers.{Numbers}
use Rattle.number.specs.Draw.{drawn_number, draw_at, limit_behind, place_behind, further}
use Rattle.number.specs.Octets.{octets}
use Rattle.arraywalk.specs.declared.Found.{Found}
use Rattle.array.specs.Meaning.{most}
use Rattle.array.specs.Meaning.{Array as Meant}
use Rattle.array.specs.Decoded.{meaning_of}
use Rattle.array.specs.Offsets.{inside}
use Rattle.arraywalk.specs.Walk.{walked_of}
use Rattle.arrayreader.specs.Reading.{sizes_of, address_in}
use Rattle.arrayreader.specs.Again.{SizesTo, Put}
use Rattle.array.proofs.Complete.{complete_meaning}
use Rattle.array.proofs.Offsets.{Summed, summed_inside, summed_offset}
use Rattle.arraywalk.proofs.Finding.{walk_said, found_is, sizes_begin, size_drawn, sizes_next}

-- ---- the sizes, drawn again

-- of a whole pack that was found
pub sizes_found : (bytes : List ℕ) → Bytes bytes → (found : Found) → Ok found ≡ walked_of bytes → SizesTo bytes found.dims 0 1
sizes_found bytes b found w =
    let e = walk_said bytes (Ok found) w in
    record {
      lawful = (complete_meaning bytes b found.length e).0;
      counted = ap (λ (f : Found). f.dims) (found_is bytes found w);
      there = sizes_begin bytes b found.length e;
    }

module _ (bytes : List ℕ) (dims count place : ℕ) (z : SizesTo bytes dims count place) (h : count < dims) where
  abbrev sizes : List ℕ
  sizes = (meaning_of bytes).sizes

  below : count < length sizes
  below = omega (arith, z.counted)

  pub again_few : count < 8
  again_few = omega (arith, below, z.lawful.few_sizes)

  -- drawing finds the next, and nothing else
  drawn_size : (drawn : Result Number Undrawn) → drawn ≡ draw_at bytes place true most → drawn ≡ drawn_number (get_or sizes count 0) (place + length (octets (get_or sizes count 0)))
  drawn_size drawn e = e ∙ size_drawn bytes sizes count place z.there below z.lawful.size_least z.lawful.elements_most

  next_there : SizesTo bytes dims (count + 1) (place + length (octets (get_or sizes count 0)))
  next_there = rw (add-one count) (record { lawful = z.lawful; counted = z.counted; there = sizes_next bytes sizes count place z.there below })

-- nothing is put yet
pub again_none : (l : List ℕ) → Put l 0 (replicate 8 0)
again_none l = record { eight = refl; there = λ i h. absurd (omega arith); past = λ i _ h. get_or-replicate 8 i 0 0 h }

-- one more is put
put_next : (l : List ℕ) (count : ℕ) (sizes : List ℕ) → Put l count sizes → count < 8 → Put l (count + 1) (set sizes count (get_or l count 0))
put_next l count sizes p h =
    let v = get_or l count 0 in
    let other : (i : ℕ) → i ≢ count → get_or (set sizes count v) i 0 ≡ get_or sizes i 0 = λ i n. get_or-set_other sizes count i v 0 n in
    record {
      eight = length-set sizes count v ∙ p.eight;
      there = λ i k. either (eqb i count)
          (λ t. let e = eqb-true i count t in subst (λ (j : ℕ). get_or (set sizes count v) j 0 ≡ get_or l j 0) (sym e) (get_or-set_same sizes count v 0 (omega (arith, p.eight))))
          (λ t. let n = eqb-false i count t in other i n ∙ p.there i (omega (arith, n)));
      past = λ i k b. other i (λ e. omega arith) ∙ p.past i (omega arith) b;
    }

abbrev whole_number : Number → Result Number Undrawn
whole_number number = Ok number

-- a draw behind so many sizes, which are put
module _ (bytes : List ℕ) (dims count : ℕ) (numbers : Numbers) (held : numbers.bytes.now ≡ bytes) (sizes : List ℕ) (z : SizesTo bytes dims count numbers.place) (p : Put (meaning_of bytes).sizes count sizes) (h : count < dims) (next : Numbers) (drew : next ≡ further numbers true (limit_behind most 1)) where
  abbrev whole : List ℕ
  whole = (meaning_of bytes).sizes

  pub again_number : next.drawn ≡ drawn_number (get_or whole count 0) (numbers.place + length (octets (get_or whole count 0)))
  again_number = ap (λ (n : Numbers). n.drawn) drew ∙ drawn_size bytes dims count numbers.place z h _ (ap (λ (s : List ℕ). draw_at s numbers.place true most) held)

  pub again_drawn : (size : Number) → next.drawn ≡ Ok size → size.value ≡ get_or whole count 0
  again_drawn size e = value_same (sym e ∙ again_number)
    where
      value_same : {x y : Number} → whole_number x ≡ whole_number y → x.value ≡ y.value
      value_same e = cc

  placed : next.place ≡ numbers.place + length (octets (get_or whole count 0))
  placed = ap (λ (n : Numbers). n.place) drew ∙ sym (ap (λ (n : Numbers). place_behind n.drawn numbers.place) drew) ∙ ap (λ (d : Result Number Undrawn). place_behind d numbers.place) again_number

  pub again_behind : SizesTo bytes dims (count + 1) next.place
  again_behind = rw placed (next_there bytes dims count numbers.place z h)

  -- and put behind the sizes before it
  pub again_put : (size : Number) → next.drawn ≡ Ok size → Put whole (count + 1) (set sizes count size.value)
  again_put size e = rw (again_drawn size e) (put_next whole count sizes p (again_few bytes dims count numbers.place z h))

-- eight sizes, one by one
pub sizes_there : (l : List ℕ) (i : ℕ) → i < 8 → get_or (sizes_of l) i 0 ≡ get_or l i 0
sizes_there l zero h = refl
sizes_there l (suc zero) h = refl
sizes_there l (suc (suc zero)) h = refl
sizes_there l (suc (suc (suc zero))) h = refl
sizes_there l (suc (suc (suc (suc zero)))) h = refl
sizes_there l (suc (suc (suc (suc (suc zero))))) h = refl
sizes_there l (suc (suc (suc (suc (suc (suc zero)))))) h = refl
sizes_there l (suc (suc (suc (suc (suc (suc (suc zero))))))) h = refl
sizes_there l (suc (suc (suc (suc (suc (suc (suc (suc i)))))))) h = absurd (omega arith)

-- all are put
pub again_all : (bytes : List ℕ) (dims count place : ℕ) (sizes : List ℕ) → SizesTo bytes dims count place → Put (meaning_of bytes).sizes count sizes → dims ≤ count → sizes ≡ sizes_of (meaning_of bytes).sizes
again_all bytes dims count place sizes z p h =
    let l = (meaning_of bytes).sizes in
    ext_get_or 0 sizes (sizes_of l) p.eight
    (λ i b. either (ltb i count)
    (λ t. p.there i (ltb-true i count t) ∙ sym (sizes_there l i (omega (arith, p.eight))))
    (λ t. let k = ltb-false i count t in p.past i k (omega (arith, p.eight)) ∙ sym (get_or-eq_default l 0 (omega (arith, z.counted))) ∙ sym (sizes_there l i (omega (arith, p.eight)))))

-- ---- the answers

-- the answer outside, and inside
module _ (a : Meant) (indices : List ℕ) where
  pub refused_outside : inside a.sizes indices ≡ false → Err (Refused (record { reason = Index; place = 0 })) ≡ address_in a indices
  refused_outside h = rw h

  pub offset_inside : (count sum element : ℕ) → Summed a.sizes indices count sum → length a.sizes ≤ count → length indices ≤ count → element ≡ a.element → Ok (sum * element) ≡ address_in a indices
  offset_inside count sum element b h k e = rw (summed_inside a.sizes indices count sum b h k, summed_offset a.sizes indices count sum b h, e)
