-- The machine of array packs accepts exactly the array packs. Assumes nothing.
use Prim.Native.Nat.{ℕ, zero, suc, ◌+◌, ◌-◌, ◌*◌, ◌/◌, ◌%◌, ◌≤◌, ◌<◌}
use mathlib.Core.Path.{◌≡◌, refl, sym, ap, ap₂, ◌∙◌, subst}
use mathlib.Core.Bool.{true, false≢true}
use mathlib.Core.List.{List, [], ◌∷◌, ◌++◌, append_assoc}
use native.Mathlib.Nat.{mul_assoc, mul_comm, mul-one, le-div_iff_mul-le, mul-pos, le-mul_of_pos_right}
use native.Mathlib.Omega.{arith}
use lib.ListN.{length}
use Rattle.verdict.specs.Machine.{Accepts}
use Rattle.verdict.specs.Says.{Bytes}
use Rattle.verdict.proofs.Judging.{Reaches}
use Rattle.std.specs.Prelude.{Result}
use Rattle.verdict.specs.declared.Reason.{Reason}
use Rattle.number.specs.declared.Effect.{Effect}
use Rattle.number.specs.Octets.{high, octets, numbers}
use Rattle.number.proofs.Octet.{Does, ends, goes, fails, does, effect_ends, effect_goes}
use Rattle.number.proofs.Octets.{Sevens, none as nothing, more as further, begun, high_none, high_more, octets_more}
use Rattle.array.specs.Meaning.{product, most}
use Rattle.array.specs.Spelling.{ArrayPack}
use Rattle.array.specs.Table.{Field, dims, size, element, processing, limit, positive}
use Rattle.array.specs.Machine.{number, body, enter, behind, behind_effect, move}
use Rattle.array.proofs.Products.{Positive, product_positive}
use Rattle.array.proofs.Keeping.{limit_product}

-- ---- numbers

-- a last octet leads behind its number
ends_accepted : (field : Field) (v o : ℕ) (t : List ℕ) → o < 128 → (positive field ≡ true → 0 < v * 128 + o) → v * 128 + o ≤ limit field → Reaches move (behind field (v * 128 + o)) t → Accepts move (number field v) (o ∷ t)
unfolding Accepts
ends_accepted field v o t h p l x = (omega arith, subst (λ (e : Result Effect Reason). Reaches move (behind_effect field e) t) (sym (effect_ends o v (positive field) (limit field) h p l)) x)

-- any other octet leads on with it
more_accepted : (field : Field) (v d : ℕ) (t : List ℕ) → d < 128 → 0 < v * 128 + d → (v * 128 + d) * 128 ≤ limit field → Accepts move (number field (v * 128 + d)) t → Accepts move (number field v) ((128 + d) ∷ t)
unfolding Accepts
more_accepted field v d t h p l x = (omega arith, subst (λ (e : Result Effect Reason). Reaches move (behind_effect field e) t) (sym (effect_goes d v (positive field) (limit field) p l)) x)

begun_accepted : (field : Field) {v : ℕ} → Sevens v → (t : List ℕ) → v * 128 ≤ limit field → Accepts move (number field v) t → Accepts move (number field 0) (high v ++ t)
begun_accepted field nothing t l a = rw high_none a
begun_accepted field (further {v} d h p b) t l a =
    rw (high_more v d h p, append_assoc) (begun_accepted field b ((128 + d) ∷ t) (omega arith) (more_accepted field v d t h p l a))

octets_accepted : (field : Field) (x : ℕ) (t : List ℕ) → (positive field ≡ true → 0 < x) → x ≤ limit field → Reaches move (behind field x) t → Accepts move (number field 0) (octets x ++ t)
octets_accepted field x t p l a =
    let q = x / 128 in
    let d = x % 128 in
    let e : q * 128 + d ≡ x = omega arith in
    let o : octets x ≡ high q ++ (d ∷ []) = ap octets (sym e) ∙ octets_more q d (omega arith) in
    rw (o, append_assoc) (begun_accepted field (begun q) (d ∷ t) (omega arith) (ends_accepted field q d t (omega arith) (rw e p) (rw e l) (rw e a)))

-- accepted bytes are a number's octets, from those already taken on, and what stands behind it
record Taken (field : Field) (v : ℕ) (w : List ℕ) : Type 0 where
  value : ℕ
  rest : List ℕ
  parts : high v ++ w ≡ octets value ++ rest
  within : value ≤ limit field
  counts : positive field ≡ true → 0 < value
  reached : Reaches move (behind field value) rest

number_taken : (field : Field) (w : List ℕ) (v : ℕ) → Accepts move (number field v) w → Taken field v w
unfolding Accepts
number_taken field [] v a = absurd a
number_taken field (o ∷ w) v a = go (does o v (positive field) (limit field)) a.1 (λ u x. number_taken field w u x)
  where
    go : {e : Result Effect Reason} → Does o v (positive field) (limit field) e → Reaches move (behind_effect field e) w → ((u : ℕ) → Accepts move (number field u) w → Taken field u w) → Taken field v (o ∷ w)
    go (ends l p h) x ih =
        record {
          value = v * 128 + o;
          rest = w;
          parts = rw (octets_more v o l) (sym (append_assoc (high v) (o ∷ []) w));
          within = h;
          counts = p;
          reached = x;
        }
    go (goes d e p h) x ih =
        let y = ih (v * 128 + d) x in
        record {
          value = y.value;
          rest = y.rest;
          parts = sym (ap (λ (l : List ℕ). l ++ w) (high_more v d (omega (arith, a.0)) p ∙ ap (λ (k : ℕ). high v ++ (k ∷ [])) (sym e)) ∙ append_assoc (high v) (o ∷ []) w) ∙ y.parts;
          within = y.within;
          counts = y.counts;
          reached = y.reached;
        }
    go fails x ih = absurd x

-- from before a number's first octet
number_begins : (field : Field) (w : List ℕ) → Accepts move (number field 0) w → Taken field 0 w
number_begins field w a = number_taken field w 0 a

first_parts : {field : Field} {w : List ℕ} (t : Taken field 0 w) → w ≡ octets t.value ++ t.rest
first_parts {w} t = ap (λ (l : List ℕ). l ++ w) (sym high_none) ∙ t.parts

-- ---- the array

bytes_cons : (b : ℕ) (w : List ℕ) → b < 256 → Bytes w → Bytes (b ∷ w)
bytes_cons b w h k zero = h
bytes_cons b w h k (suc i) = k i

bytes_none : (w : List ℕ) → w ≡ [] → Bytes w
bytes_none w e i = rw e (omega arith)

body_accepted : (more : ℕ) (w : List ℕ) → length w ≡ suc more → Bytes w → Accepts move (body more) w
unfolding Accepts
body_accepted more [] l h = absurd (omega arith)
body_accepted zero (b ∷ []) l h = (h 0, refl)
body_accepted zero (b ∷ c ∷ w) l h = absurd (omega arith)
body_accepted (suc more) (b ∷ w) l h = (h 0, body_accepted more w (omega arith) (λ i. h (suc i)))

accepted_body : (more : ℕ) (w : List ℕ) → Accepts move (body more) w → (length w ≡ suc more) × Bytes w
unfolding Accepts
accepted_body more [] a = absurd a
accepted_body zero (b ∷ w) a = (ap (λ (l : List ℕ). suc (length l)) a.1, bytes_cons b w a.0 (bytes_none w a.1))
accepted_body (suc more) (b ∷ w) a = let x = accepted_body more w a.1 in (ap suc x.0, bytes_cons b w a.0 x.1)

body_reached : (total : ℕ) (w : List ℕ) → length w ≡ total → Bytes w → Reaches move (enter total) w
body_reached zero [] l h = refl
body_reached zero (b ∷ w) l h = absurd (omega arith)
body_reached (suc more) w l h = body_accepted more w l h

reached_body : (total : ℕ) (w : List ℕ) → Reaches move (enter total) w → (length w ≡ total) × Bytes w
reached_body zero w a = (ap length a, bytes_none w a)
reached_body (suc more) w a = accepted_body more w a

-- ---- sizes

-- a size keeps the limit where the product of all does
size_within : (before s after : ℕ) → 1 ≤ before → 1 ≤ after → before * (s * after) ≤ most → s ≤ most / before
size_within before s after b a h =
    (le-div_iff_mul-le {k = before} {x = s} {y = most} b).1
    (omega (arith, mul_comm s before, mul_assoc before s after, le-mul_of_pos_right {m = after} (before * s) a))

sizes_accepted : (s : ℕ) (sizes : List ℕ) (before : ℕ) (t : List ℕ) → 1 ≤ before → Positive (s ∷ sizes) → before * product (s ∷ sizes) ≤ most → Accepts move (number (element (before * product (s ∷ sizes))) 0) t
    → Accepts move (number (size (length sizes) before) 0) (numbers (s ∷ sizes) ++ t)
unfolding product numbers
sizes_accepted s [] before t b p h a =
    rw append_assoc (octets_accepted (size zero before) s t (λ _. p 0 (omega arith)) (size_within before s 1 b (omega arith) h) (rw (mul-one s) at a))
sizes_accepted s (u ∷ sizes) before t b p h a =
    let e : before * (s * (u * product sizes)) ≡ before * s * (u * product sizes) = sym (mul_assoc before s (u * product sizes)) in
    let q = product_positive (u ∷ sizes) (λ i l. p (suc i) (omega arith)) in
    rw append_assoc (octets_accepted (size (suc (length sizes)) before) s (numbers (u ∷ sizes) ++ t) (λ _. p 0 (omega arith)) (size_within before s (u * product sizes) b q h)
    (sizes_accepted u sizes (before * s) t (mul-pos b (p 0 (omega arith))) (λ i l. p (suc i) (omega arith)) (rw e at h) (rw e at a)))

-- accepted bytes are so many sizes, and what stands behind them
record Sized (count before : ℕ) (w : List ℕ) : Type 0 where
  sizes : List ℕ
  rest : List ℕ
  counted : length sizes ≡ suc count
  positives : Positive sizes
  within : before * product sizes ≤ most
  parts : w ≡ numbers sizes ++ rest
  reached : Accepts move (number (element (before * product sizes)) 0) rest

-- the last size
sized_one : (before : ℕ) (w : List ℕ) (s : ℕ) (rest : List ℕ) → 0 < s → before * s ≤ most → w ≡ octets s ++ rest → Accepts move (number (element (before * s)) 0) rest → Sized zero before w
unfolding product numbers
sized_one before w s rest p h e a =
    record {
      sizes = s ∷ [];
      rest = rest;
      counted = refl;
      positives = one;
      within = rw (mul-one s) h;
      parts = e ∙ sym (append_assoc (octets s) [] rest);
      reached = rw (mul-one s) a;
    }
  where
    one : Positive (s ∷ [])
    one zero l = p
    one (suc i) l = absurd (omega arith)

-- a size before others
sized_more : (count before : ℕ) (w : List ℕ) (s : ℕ) (rest : List ℕ) → 0 < s → w ≡ octets s ++ rest → Sized count (before * s) rest → Sized (suc count) before w
unfolding product numbers
sized_more count before w s rest p e x =
    record {
      sizes = s ∷ x.sizes;
      rest = x.rest;
      counted = ap suc x.counted;
      positives = more_sizes;
      within = rw (← mul_assoc before s (product x.sizes)) x.within;
      parts = e ∙ ap (λ (l : List ℕ). octets s ++ l) x.parts ∙ sym (append_assoc (octets s) (numbers x.sizes) x.rest);
      reached = rw (← mul_assoc before s (product x.sizes)) x.reached;
    }
  where
    more_sizes : Positive (s ∷ x.sizes)
    more_sizes zero l = p
    more_sizes (suc i) l = x.positives i (omega arith)

sizes_taken : (count before : ℕ) (w : List ℕ) → 1 ≤ before → Accepts move (number (size count before) 0) w → Sized count before w
unfolding product numbers
sizes_taken zero before w b a =
    let t = number_begins (size zero before) w a in
    sized_one before w t.value t.rest (t.counts refl) (limit_product before t.value b t.within) (first_parts t) t.reached
sizes_taken (suc count) before w b a =
    let t = number_begins (size (suc count) before) w a in
    sized_more count before w t.value t.rest (t.counts refl) (first_parts t) (sizes_taken count (before * t.value) t.rest (mul-pos b (t.counts refl)) t.reached)

-- ---- behind the sizes

-- E, processing 1 and the array
record Ended (count : ℕ) (w : List ℕ) : Type 0 where
  element_size : ℕ
  array : List ℕ
  within : count * element_size ≤ most
  counted : length array ≡ count * element_size
  bytes : Bytes array
  parts : w ≡ octets element_size ++ (octets 1 ++ array)

ended_accepted : (count : ℕ) (w : List ℕ) → 1 ≤ count → Ended count w → Accepts move (number (element count) 0) w
ended_accepted count w h x =
    subst (Accepts move (number (element count) 0)) (sym x.parts)
    (octets_accepted (element count) x.element_size (octets 1 ++ x.array) (λ e. absurd (false≢true e)) ((le-div_iff_mul-le {k = count} {x = x.element_size} {y = most} h).1 (rw (mul_comm x.element_size count) x.within))
    (octets_accepted (processing (count * x.element_size)) 1 x.array (λ _. omega arith) (omega arith) (body_reached (count * x.element_size) x.array x.counted x.bytes)))

accepted_ended : (count : ℕ) (w : List ℕ) → 1 ≤ count → Accepts move (number (element count) 0) w → Ended count w
accepted_ended count w h a =
    let e = number_begins (element count) w a in
    let q = number_begins (processing (count * e.value)) e.rest e.reached in
    let one : q.value ≡ 1 = omega (arith, q.within, q.counts refl) in
    let b = reached_body (count * e.value) q.rest q.reached in
    record {
      element_size = e.value;
      array = q.rest;
      within = limit_product count e.value h e.within;
      counted = b.0;
      bytes = b.1;
      parts = first_parts e ∙ ap (λ (l : List ℕ). octets e.value ++ l) (first_parts q ∙ ap (λ (k : ℕ). octets k ++ q.rest) one);
    }

-- ---- the pack

-- NDim, and the sizes
dims_accepted : (sizes t : List ℕ) → 1 ≤ length sizes → length sizes ≤ 8 → Positive sizes → product sizes ≤ most → Accepts move (number (element (product sizes)) 0) t → Accepts move (number dims 0) (octets (length sizes) ++ (numbers sizes ++ t))
dims_accepted [] t h l p m a = absurd (omega arith)
dims_accepted (s ∷ sizes) t h l p m a =
    let e : suc (length sizes) - 1 ≡ length sizes = omega arith in
    let o : 1 * product (s ∷ sizes) ≡ product (s ∷ sizes) = omega arith in
    octets_accepted dims (suc (length sizes)) (numbers (s ∷ sizes) ++ t) (λ _. omega arith) l
    (subst (λ (k : ℕ). Accepts move (number (size k 1) 0) (numbers (s ∷ sizes) ++ t)) (sym e) (sizes_accepted s sizes 1 t (omega arith) p (rw o m) (rw o a)))

pub pack_accepted : (w : List ℕ) → ArrayPack w → Accepts move (number dims 0) w
pack_accepted w p =
    let a = p.meaning in
    let g = p.lawful in
    subst (Accepts move (number dims 0)) p.spelled
    (dims_accepted a.sizes (octets a.element ++ (octets 1 ++ a.body)) g.some_sizes g.few_sizes g.size_least g.elements_most
    (ended_accepted (product a.sizes) (octets a.element ++ (octets 1 ++ a.body)) (product_positive a.sizes g.size_least)
    (record { element_size = a.element; array = a.body; within = g.bytes_most; counted = g.body_count; bytes = g.body_bytes; parts = refl })))

spelling : (w rest sizes behind t : List ℕ) (n : ℕ) → w ≡ octets n ++ rest → n ≡ length sizes → rest ≡ numbers sizes ++ behind → behind ≡ t → octets (length sizes) ++ (numbers sizes ++ t) ≡ w
spelling w rest sizes behind t n e l s b = sym (e ∙ ap₂ (λ (k : ℕ) (x : List ℕ). octets k ++ x) l (s ∙ ap (λ (x : List ℕ). numbers sizes ++ x) b))

pub accepted_pack : (w : List ℕ) → Accepts move (number dims 0) w → ArrayPack w
accepted_pack w a =
    let d = number_begins dims w a in
    let s = sizes_taken (d.value - 1) 1 d.rest (omega arith) d.reached in
    let o : 1 * product s.sizes ≡ product s.sizes = omega arith in
    let n : d.value ≡ length s.sizes = omega (arith, s.counted, d.counts refl) in
    let e = accepted_ended (product s.sizes) s.rest (product_positive s.sizes s.positives) (rw o at s.reached) in
    record {
      meaning = record { sizes = s.sizes; element = e.element_size; body = e.array };
      lawful = record {
        some_sizes = omega (arith, s.counted);
        few_sizes = omega (arith, d.within);
        size_least = s.positives;
        elements_most = rw o at s.within;
        bytes_most = e.within;
        body_count = e.counted;
        body_bytes = e.bytes;
      };
      spelled = spelling w d.rest s.sizes s.rest (octets e.element_size ++ (octets 1 ++ e.array)) d.value (first_parts d) n s.parts e.parts;
    }
