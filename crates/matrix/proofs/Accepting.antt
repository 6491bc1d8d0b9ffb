-- The machine of matrix packs accepts exactly the matrix packs. Assumes nothing.
use Prim.Native.Nat.{ℕ, zero, suc, ◌+◌, ◌-◌, ◌*◌, ◌%◌, ◌^◌, ◌≤◌, ◌<◌, min}
use mathlib.Core.Path.{◌≡◌, refl, sym, ap, ap₂, ◌∙◌, subst}
use mathlib.Core.Bool.{true, false, not, false≢true}
use mathlib.Core.List.{List, [], ◌∷◌, ◌++◌, append-nil}
use native.Mathlib.Omega.{arith}
use lib.ListN.{length, get_or, take, replicate, length-replicate, get_or-replicate}
use lib.Seq.{length-take-le}
use borrow.Author.Tests.{eq-eqb, ne_eqb, eqb-true, eqb-false, not-false}
use lib.Dec.{eqb}
use Rattle.verdict.proofs.Judging.{Kept, Reaches, kept_reaches, reaches_kept}
use Rattle.verdict.specs.Machine.{on, Accepts}
use Rattle.verdict.proofs.Cases.{by_test, either, and_right}
use Rattle.word.specs.Digits.{digits}
use Rattle.word.proofs.Digits.{Below, below_append, below_one, below_take}
use Rattle.matrix.specs.declared.Fields.{Fields}
use Rattle.matrix.specs.declared.Told.{Told}
use Rattle.matrix.specs.Meaning.{pairs, sum, Matrix, LawfulFirst, LawfulFields, Lawful, Mode1, Fits}
use Rattle.matrix.specs.Spelling.{packed, spelled, bytes_of}
use Rattle.matrix.specs.Header.{header_of, bits, control, control1, control2, first, second, single, in_mode1, vector_bytes}
use Rattle.matrix.specs.Pack.{MatrixPack}
use Rattle.matrix.specs.Table.{size_rows, single_rows, control1_rows, control2_rows, vector_rows}
use Rattle.matrix.specs.Machine.{size, vector, step, enter, words_of, all_sent_count, enter_values, in_single, in_first}
use Rattle.matrix.specs.Machine.{control1 as control1', control2 as control2'}
use Rattle.matrix.proofs.BitVector.{marks_alike, sum_same, sum_append, sum_first, bits_below, length_bits, length_packed, packed_back, packed_below, packed_rest, packed_sum, none_unused, unused_none}
use Rattle.matrix.proofs.WordRuns.{values_accepted, accepted_values}
use Rattle.matrix.proofs.Pairs.{pairs_some}
use Rattle.matrix.proofs.ControlBytes.{first_rows, second_rows, second_back, size_kept, size_rows_lem, control1_byte, control2_byte, control1_spelled, control2_spelled, mode_told, single_back, single_mode, single_spelled, control_byte, control_mode}
use Rattle.matrix.proofs.FieldRules.{lawful_single}
use Rattle.matrix.proofs.Header.{header_single, header_double, control1_mode}
use Rattle.matrix.proofs.Keeping.{first_kept, second_kept, single_kept, two_sizes, values_by, vector_none}

-- ---- the bit vector

sum_byte : (b : ℕ) (v : List ℕ) → sum (bits (b ∷ v)) ≡ sum (digits 2 8 b) + sum (bits v)
unfolding bits
sum_byte b v = sum_append (digits 2 8 b) (bits v)

pub sum_more : (sent b : ℕ) (v : List ℕ) → sent + sum (bits (b ∷ v)) ≡ sent + sum (digits 2 8 b) + sum (bits v)
sum_more sent b v = omega (arith, sum_byte b v)

pub sum_last : (sent b : ℕ) → sent + sum (bits (b ∷ [])) ≡ sent + sum (digits 2 8 b)
unfolding bits sum
sum_last sent b = ap (λ (l : List ℕ). sent + sum l) (append-nil (digits 2 8 b))

module _ (f : Fields) where
  -- a whole vector leads to the words that its ones ask for
  vector_reached : (more sent : ℕ) (v w : List ℕ) → length v ≡ suc more → Below 256 v → Kept (vector_rows f (sent + sum (bits v)) (get_or v more 0))
      → Reaches step (enter (words_of f (sent + sum (bits v)))) w → Accepts step (vector f more sent) (v ++ w)
  unfolding Accepts
  vector_reached more sent [] w l h k x = absurd (omega arith)
  vector_reached zero sent (b ∷ []) w l h k x =
      (h 0, kept_reaches step (vector_rows f (sent + sum (digits 2 8 b)) b) (enter (words_of f (sent + sum (digits 2 8 b)))) w (rw (sum_last sent b) at k) (rw (sum_last sent b) at x))
  vector_reached zero sent (b ∷ c ∷ v) w l h k x = absurd (omega arith)
  vector_reached (suc more) sent (b ∷ v) w l h k x = (h 0, vector_reached more (sent + sum (digits 2 8 b)) v w (omega arith) (λ i. h (suc i)) (rw (sum_more sent b v) at k) (rw (sum_more sent b v) at x))

  -- bytes that are accepted in the vector are a whole vector and the words behind it
  record Taken (more sent : ℕ) (x : List ℕ) : Type 0 where
    front : List ℕ
    behind : List ℕ
    parts : x ≡ front ++ behind
    count : length front ≡ suc more
    bytes : Below 256 front
    kept : Kept (vector_rows f (sent + sum (bits front)) (get_or front more 0))
    reached : Reaches step (enter (words_of f (sent + sum (bits front)))) behind

  vector_taken : (more sent : ℕ) (x : List ℕ) → Accepts step (vector f more sent) x → Taken more sent x
  unfolding Accepts
  vector_taken more sent [] a = absurd a
  vector_taken zero sent (b ∷ w) a =
      let x = reaches_kept step (vector_rows f (sent + sum (digits 2 8 b)) b) (enter (words_of f (sent + sum (digits 2 8 b)))) w a.1 in
      record {
        front = b ∷ [];
        behind = w;
        parts = refl;
        count = refl;
        bytes = below_one a.0;
        kept = rw (sum_last sent b) x.0;
        reached = rw (sum_last sent b) x.1;
      }
  vector_taken (suc more) sent (b ∷ w) a =
      let t = vector_taken more (sent + sum (digits 2 8 b)) w a.1 in
      record {
        front = b ∷ t.front;
        behind = t.behind;
        parts = ap (λ (l : List ℕ). b ∷ l) t.parts;
        count = ap suc t.count;
        bytes = below_append (b ∷ []) t.front (below_one a.0) t.bytes;
        kept = rw (sum_more sent b t.front) t.kept;
        reached = rw (sum_more sent b t.front) t.reached;
      }

-- ---- the values behind the control bytes

get_D_same : (n k i : ℕ) → k ≤ 1 → get_or (replicate n k) i 0 ≤ 1
get_D_same zero k i h = omega arith
get_D_same (suc n) k zero h = h
get_D_same (suc n) k (suc i) h = get_D_same n k i h

-- the vector is as long as its bits ask for
vector_room : (f : Fields) → LawfulFirst f → f.cs ≡ true → (suc (vector_bytes f - 1) ≡ vector_bytes f) × (pairs f.n ≤ suc (vector_bytes f - 1) * 8) × ((vector_bytes f - 1) * 8 ≤ pairs f.n)
vector_room f g e = rw e (omega (arith, pairs_some f.n (two_sizes f g (g.sparse e))))

-- a vector whose last byte keeps rule 10 has no 1 behind the M bits
pub vector_zeros : (f : Fields) → LawfulFirst f → f.cs ≡ true → (v : List ℕ) → length v ≡ suc (vector_bytes f - 1)
    → not (eqb (get_or v (vector_bytes f - 1) 0 % 2 ^ (vector_bytes f * 8 - pairs f.n)) 0) ≡ false → (i : ℕ) → pairs f.n ≤ i → get_or (bits v) i 0 ≡ 0
vector_zeros f g e v count kept =
    let room = vector_room f g e in
    unused_none v (vector_bytes f - 1) (pairs f.n) count room.1 room.2
    (subst (λ (k : ℕ). get_or v (vector_bytes f - 1) 0 % 2 ^ (k * 8 - pairs f.n) ≡ 0) (sym room.0) (eqb-true _ 0 (not-false _ kept)))

-- the values of a lawful meaning lead to a pack's end
module _ (m : Matrix) (g : Lawful m) where
  abbrev f : Fields
  f = m.fields

  abbrev values : List ℕ
  values = spelled f.slen (replicate f.n 1) m.deviations ++ spelled f.clen m.marks m.coefficients

  below : Below 2 m.marks
  below i = omega (arith, g.values.mark_rule i)

  words_reached : Reaches step (enter (words_of f (sum m.marks))) values
  words_reached =
      values_accepted f m.marks g.fields g.values.mark_rule values
      (record {
        deviations = m.deviations;
        coefficients = m.coefficients;
        deviation_count = g.values.deviation_count;
        coefficient_count = g.values.coefficient_count ∙ sym g.values.mark_count;
        deviation_rule = g.values.deviation_rule;
        coefficient_rule = g.values.coefficient_rule;
        not_sent = λ i l. g.values.not_sent i (subst (λ (k : ℕ). i < k) g.values.mark_count l);
        spelled_as = refl;
      })

  all_sum : f.cs ≡ false → sum m.marks ≡ all_sent_count f
  all_sum e = ap sum (marks_alike m g.values e) ∙ sum_same (pairs f.n) (min 1 f.clen)

  full_reached : f.cs ≡ false → Reaches step (enter (words_of f (all_sent_count f))) (packed (vector_bytes f) m.marks ++ values)
  unfolding packed
  full_reached e =
      subst (λ (k : ℕ). Reaches step (enter (words_of f (all_sent_count f))) (packed k m.marks ++ values)) (sym (vector_none f e))
      (subst (λ (k : ℕ). Reaches step (enter (words_of f k)) values) (all_sum e) words_reached)

  module _ (e : f.cs ≡ true) where
    abbrev more : ℕ
    more = vector_bytes f - 1

    abbrev room : (suc more ≡ vector_bytes f) × (pairs f.n ≤ suc more * 8) × (more * 8 ≤ pairs f.n)
    room = vector_room f g.fields.first e

    front : List ℕ
    front = packed (vector_bytes f) m.marks

    front_count : length front ≡ suc more
    unfolding front
    front_count = length_packed (vector_bytes f) m.marks ∙ sym room.0

    marks_sum : 0 + sum (bits front) ≡ sum m.marks
    unfolding front
    marks_sum = omega (arith, packed_sum (vector_bytes f) m.marks below (omega (arith, g.values.mark_count, room.0, room.1)))

    last_rows : Kept (vector_rows f (sum m.marks) (get_or front more 0))
    unfolding front
    last_rows =
        let z : get_or front more 0 % 2 ^ (suc more * 8 - pairs f.n) ≡ 0 =
        none_unused front more (pairs f.n) front_count room.1 room.2 (λ i l. packed_rest (vector_bytes f) m.marks below i (omega (arith, g.values.mark_count))) in (
          rw (eq-eqb (get_or front more 0 % 2 ^ (vector_bytes f * 8 - pairs f.n)) 0 (subst (λ (k : ℕ). get_or front more 0 % 2 ^ (k * 8 - pairs f.n) ≡ 0) room.0 z)),
          (either (eqb f.slen 0) (λ s. rw (s, ne_eqb (sum m.marks) 0 (λ n. omega (arith, g.values.some_value, eqb-true f.slen 0 s)))) (λ s. rw s), tt),
        )

    sparse_reached : Accepts step (vector f more 0) (front ++ values)
    unfolding front
    sparse_reached = vector_reached f more 0 front values front_count (packed_below (vector_bytes f) m.marks below) (rw marks_sum last_rows) (rw marks_sum words_reached)

  values_reached : Reaches step (enter_values f (vector_bytes f)) (packed (vector_bytes f) m.marks ++ values)
  unfolding front
  values_reached = values_by (λ move. Reaches step move (packed (vector_bytes f) m.marks ++ values)) f g.fields.first full_reached sparse_reached

  -- a lawful meaning's bytes are accepted under what fits it
  module _ (told : Told) (fits : Fits told f) where
    abbrev behind : List ℕ
    behind = packed (vector_bytes f) m.marks ++ values

    -- behind the size
    size_accepted : (w : List ℕ) → Accepts step (control1' told f.n) w → Accepts step (size told) (f.n ∷ w)
    unfolding Accepts
    size_accepted w a =
        let l = g.fields.first in
        (omega (arith, l.size_most), kept_reaches step (size_rows f.n) (on (control1' told f.n)) w (size_rows_lem f.n l.size_least l.size_most) a)

    single_accepted : f.mode1 ≡ true → Accepts step (control1' told f.n) (control f ∷ behind)
    unfolding Accepts
    single_accepted e =
        let k = fits e in
        let x : Reaches step (in_single (single told f.n (control f))) behind =
        subst (λ (h : Fields). Reaches step (in_single h) behind) (sym (single_back told f k e)) (kept_reaches step (single_rows f) (enter_values f (vector_bytes f)) behind (lawful_single f g.fields) values_reached) in
        (control_byte told f k, rw (control_mode told f k) x)

    double_accepted : f.mode1 ≡ false → Accepts step (control1' told f.n) (control1 f ∷ control2 f ∷ behind)
    unfolding Accepts
    double_accepted e =
        let l = g.fields.first in
        let n = f.n in
        let c = control1 f in
        let d = control2 f in
        let x : Kept (control2_rows (second (first n c) d) d) × Reaches step (enter_values (second (first n c) d) (vector_bytes (second (first n c) d))) behind =
        subst (λ (h : Fields). Kept (control2_rows h d) × Reaches step (enter_values h (vector_bytes h)) behind) (sym (second_back f g.fields e)) (second_rows f g.fields, values_reached) in
        let y : Reaches step (in_first (first n c) c) (d ∷ behind) =
        kept_reaches step (control1_rows (first n c) c) (on (control2' (first n c))) (d ∷ behind) (first_rows f l e)
        (control2_byte f g.fields, kept_reaches step (control2_rows (second (first n c) d) d) (enter_values (second (first n c) d) (vector_bytes (first n c))) behind x.0 x.1) in
        (control1_byte f l, rw (control1_mode told f l) y)

    meaning_accepted : Accepts step (size told) (bytes_of m)
    meaning_accepted =
        either f.mode1
        (λ e. subst (λ (h : List ℕ). Accepts step (size told) (h ++ behind)) (sym (header_single f e)) (size_accepted (control f ∷ behind) (single_accepted e)))
        (λ e. subst (λ (h : List ℕ). Accepts step (size told) (h ++ behind)) (sym (header_double f e)) (size_accepted (control1 f ∷ control2 f ∷ behind) (double_accepted e)))

pub pack_accepted : (told : Told) (w : List ℕ) → MatrixPack told w → Accepts step (size told) w
pack_accepted told w p = subst (Accepts step (size told)) p.spelled (meaning_accepted p.meaning p.lawful told p.fits)

-- ---- from the machine to the meaning

module _ (f : Fields) (g : LawfulFields f) where
  -- a lawful meaning of these fields and the bytes behind them
  record Means (w : List ℕ) : Type 0 where
    meaning : Matrix
    same : meaning.fields ≡ f
    lawful : Lawful meaning
    spelt : bytes_of meaning ≡ header_of f ++ w

  marked : (marks w : List ℕ) → length marks ≡ pairs f.n → ((i : ℕ) → get_or marks i 0 ≤ 1) → (f.cs ≡ false → (i : ℕ) → i < pairs f.n → get_or marks i 0 ≡ min 1 f.clen) → 0 < f.slen + sum marks
      → Reaches step (enter (words_of f (sum marks))) w → Means (packed (vector_bytes f) marks ++ w)
  marked marks w count rule all some a =
      let v = accepted_values f marks g rule w a in
      record {
        meaning = record { fields = f; deviations = v.deviations; marks = marks; coefficients = v.coefficients };
        same = refl;
        lawful = record {
          fields = g;
          values = record {
            deviation_count = v.deviation_count;
            mark_count = count;
            coefficient_count = v.coefficient_count ∙ count;
            deviation_rule = v.deviation_rule;
            mark_rule = rule;
            all_sent = all;
            coefficient_rule = v.coefficient_rule;
            not_sent = λ i l. v.not_sent i (subst (λ (k : ℕ). i < k) (sym count) l);
            some_value = some;
          };
        };
        spelt = ap (λ (l : List ℕ). header_of f ++ (packed (vector_bytes f) marks ++ l)) v.spelled_as;
      }

  full_means : f.cs ≡ false → (w : List ℕ) → Reaches step (enter (words_of f (all_sent_count f))) w → Means w
  unfolding packed
  full_means e w a =
      let marks = replicate (pairs f.n) (min 1 f.clen) in
      let s : sum marks ≡ all_sent_count f = sum_same (pairs f.n) (min 1 f.clen) in
      subst (λ (k : ℕ). Means (packed k marks ++ w)) (vector_none f e)
      (marked marks w (length-replicate (pairs f.n) (min 1 f.clen)) (λ i. get_D_same (pairs f.n) (min 1 f.clen) i (omega arith))
      (λ _ i l. get_or-replicate (pairs f.n) i (min 1 f.clen) 0 l)
      (subst (λ (k : ℕ). 0 < f.slen + k) (sym s) (some_sent f.clen refl))
      (subst (λ (k : ℕ). Reaches step (enter (words_of f k)) w) (sym s) a))
    where
      some_sent : (k : ℕ) → f.clen ≡ k → 0 < f.slen + pairs f.n * min 1 k
      some_sent zero z = omega (arith, g.some_length)
      some_sent (suc k) z = let o : min 1 (suc k) ≡ 1 = omega arith in rw o (omega (arith, pairs_some f.n (two_sizes f g.first (omega arith))))

  sparse_means : f.cs ≡ true → (w : List ℕ) → Accepts step (vector f (vector_bytes f - 1) 0) w → Means w
  sparse_means e w a =
      let t = vector_taken f (vector_bytes f - 1) 0 w a in
      let room = vector_room f g.first e in
      let v = t.front in
      let marks = take (pairs f.n) (bits v) in
      let zeros = vector_zeros f g.first e v t.count t.kept.0 in
      let s : sum marks ≡ sum (bits v) = sum_first (pairs f.n) (bits v) zeros in
      let back : packed (vector_bytes f) marks ≡ v = ap (λ (k : ℕ). packed k marks) (sym room.0 ∙ sym t.count) ∙ packed_back (pairs f.n) v t.bytes zeros in
      subst Means (ap (λ (l : List ℕ). l ++ t.behind) back ∙ sym t.parts)
      (marked marks t.behind (length-take-le (pairs f.n) (bits v) (omega (arith, length_bits v, t.count, room.1)))
      (λ i. omega (arith, below_take (pairs f.n) (bits v) (bits_below v) i))
      (λ x. absurd (false≢true (sym x ∙ e)))
      (either (eqb f.slen 0) (λ z. omega (arith, s, eqb-false (0 + sum (bits v)) 0 (and_right (eqb f.slen 0) (eqb (0 + sum (bits v)) 0) t.kept.1.0 z))) (λ z. omega (arith, eqb-false f.slen 0 z)))
      (subst (λ (k : ℕ). Reaches step (enter (words_of f k)) t.behind) (omega arith) t.reached))

  values_means : (w : List ℕ) → Reaches step (enter_values f (vector_bytes f)) w → Means w
  values_means w = values_by (λ move. Reaches step move w → Means w) f g.first (λ e. full_means e w) (λ e. sparse_means e w)

module _ (told : Told) (n c : ℕ) (kn : Kept (size_rows n)) (hc : c < 256) where
  -- Mode 1's control byte and the values behind it
  single_pack : (w : List ℕ) → in_mode1 told c ≡ true → Reaches step (in_single (single told n c)) w → MatrixPack told (n ∷ c ∷ w)
  single_pack w t a =
      let f = single told n c in
      let x = reaches_kept step (single_rows f) (enter_values f (vector_bytes f)) w a in
      let m = values_means f (single_kept told n c (size_kept n kn) x.0) w x.1 in
      let one = mode_told told c t in
      record {
        meaning = m.meaning;
        lawful = m.lawful;
        fits = λ e. subst (Mode1 told) (sym m.same) (single_mode told n c one.0);
        spelled = m.spelt ∙ ap (λ (h : List ℕ). h ++ w) (header_single f refl) ∙ ap (λ (x : ℕ). n ∷ x ∷ w) (single_spelled told n c one.1);
      }

  -- Mode 2's control bytes and the values behind them
  double_pack : (w : List ℕ) → Reaches step (in_first (first n c) c) w → MatrixPack told (n ∷ c ∷ w)
  unfolding Accepts
  double_pack [] a = absurd (reaches_kept step (control1_rows (first n c) c) (on (control2' (first n c))) [] a).1
  double_pack (d ∷ w) a =
      let s = size_kept n kn in
      let y = reaches_kept step (control1_rows (first n c) c) (on (control2' (first n c))) (d ∷ w) a in
      let z = reaches_kept step (control2_rows (second (first n c) d) d) (enter_values (second (first n c) d) (vector_bytes (first n c))) w y.1.1 in
      let f = second (first n c) d in
      let m = values_means f (second_kept (first n c) d (first_kept n c s.0 s.1 y.0) z.0) w z.1 in
      record {
        meaning = m.meaning;
        lawful = m.lawful;
        fits = λ e. absurd (false≢true (sym (ap (λ (h : Fields). h.mode1) m.same) ∙ e));
        spelled = m.spelt ∙ ap (λ (h : List ℕ). h ++ w) (header_double f refl) ∙ ap₂ (λ (x y : ℕ). n ∷ x ∷ y ∷ w) (control1_spelled n c hc y.0) (control2_spelled (first n c) d y.1.0 z.0);
      }

pub accepted_pack : (told : Told) (w : List ℕ) → Accepts step (size told) w → MatrixPack told w
unfolding Accepts
accepted_pack told [] a = absurd a
accepted_pack told (n ∷ []) a = absurd (reaches_kept step (size_rows n) (on (control1' told n)) [] a.1).1
accepted_pack told (n ∷ c ∷ w) a =
    let x = reaches_kept step (size_rows n) (on (control1' told n)) (c ∷ w) a.1 in
    by_test (λ move. Reaches step move w → MatrixPack told (n ∷ c ∷ w)) (in_mode1 told c) (in_single (single told n c)) (in_first (first n c) c)
    (λ e y. single_pack told n c x.0 x.1.0 w e y) (λ e y. double_pack told n c x.0 x.1.0 w y) x.1.1
