-- Laws of words one after the other: those that bytes hold, their bytes, and the loops that read and write them. Assumes nothing.
use Prim.Native.Nat.{ℕ, zero, suc, ◌+◌, ◌*◌, ◌/◌, ◌%◌, ◌^◌, ◌≤◌, ◌<◌}
use mathlib.Core.Path.{◌≡◌, refl, ◌∙◌, sym, ap, ap₂, subst}
use mathlib.Core.Bool.{Bool, true, false, not, ◌&&◌, and-eq-true_iff}
use mathlib.Core.List.{List, [], ◌∷◌, ◌++◌, append-nil, append_assoc}
use native.Mathlib.Numerals.{add-one}
use native.Mathlib.Omega.{arith}
use native.Mathlib.Nat.{zero-add, zero-mul, mul-zero, suc-mul, mul-le-mul_right, div-add-mod', mul-div_cancel, mul-mod_left, le_of_eq}
use borrow.Author.Tests.{eqb-true, eqb-false, eq-eqb, lt-ltb, le-ltb, ltb-false, not-false}
use lib.Dec.{eqb}
use lib.ListN.{length, take, drop, get_or, set, length-append, length-drop, drop_of_length-le, take-append-drop}
use lib.Seq.{take_at, drop_at, take_all, take-suc, take-add, take-append-le, drop-append-le, drop-drop, length-take-le}
use Rattle.std.specs.Prelude.{Result, Ok, Err}
use Rattle.verdict.specs.declared.Reason.{Reason}
use Rattle.verdict.specs.declared.Reason.TheVariants.{ValueLength, Disagree}
use Rattle.verdict.specs.Judgement.{judgement}
use Rattle.verdict.specs.Rows.{Row}
use Rattle.verdict.specs.declared.Verdict.{Verdict}
use Rattle.verdict.specs.declared.Verdict.TheVariants.{Complete}
use Rattle.verdict.specs.Writing.{put, refusing, WrittenBy}
use Rattle.verdict.proofs.Cases.{either}
use Rattle.verdict.proofs.Judging.{Kept}
use Rattle.verdict.proofs.Deciding.{judgement_kept, judgement_on, judgement_off, judgement_blamed, kept_judgement, kept_both, both_kept, decided_kept, written_off}
use Rattle.verdict.proofs.Putting.{put_none, put_first, put_more, put_put, length_put}
use Rattle.word.specs.Digits.{digits, value_of}
use Rattle.word.specs.Bytes.{word_at}
use Rattle.word.specs.Many.{words_in, bytes_for, all_below, many_rows, too_long_rows, write_rows}
use Rattle.word.proofs.Digits.{Below, below_drop, length_digits, value_digits, digits_take}

pub length_words : (n words : ℕ) (bytes : List ℕ) → length (words_in n words bytes) ≡ words
unfolding words_in
length_words n zero bytes = refl
length_words n (suc words) bytes = ap suc (length_words n words (drop n bytes))

-- a word past the first is the word at its place
word_past : (n i : ℕ) (bytes : List ℕ) → word_at (drop n bytes) (i * n) n ≡ word_at bytes (suc i * n) n
word_past n i bytes =
    let e : n + i * n ≡ suc i * n = omega (arith, suc-mul i n) in
    rw (drop-drop, e)

pub get_d_words : (n words : ℕ) (bytes : List ℕ) (i : ℕ) → i < words → get_or (words_in n words bytes) i 0 ≡ word_at bytes (i * n) n
unfolding words_in
get_d_words n zero bytes i h = absurd (omega arith)
get_d_words n (suc words) bytes zero h = rw zero-mul
get_d_words n (suc words) bytes (suc i) h = get_d_words n words (drop n bytes) i (omega arith) ∙ word_past n i bytes

-- words are those of the bytes that have all of theirs, whatever stands behind
pub words_append : (n words : ℕ) (bytes more : List ℕ) → words * n ≤ length bytes → words_in n words (bytes ++ more) ≡ words_in n words bytes
unfolding words_in
words_append n zero bytes more h = refl
words_append n (suc words) bytes more h =
    let e : suc words * n ≡ n + words * n = omega (arith, suc-mul words n) in
    let room : words * n ≤ length (drop n bytes) = rw length-drop (omega arith) in
    rw (take-append-le n bytes more (omega arith), drop-append-le n bytes more (omega arith), words_append n words (drop n bytes) more room)

-- and so of so many of the bytes
pub words_take : (n words k : ℕ) (bytes : List ℕ) → words * n ≤ k → k ≤ length bytes → words_in n words (take k bytes) ≡ words_in n words bytes
words_take n words k bytes h l =
    sym (words_append n words (take k bytes) (drop k bytes) (rw (length-take-le k bytes l) h)) ∙ ap (words_in n words) (take-append-drop k bytes)

-- one word more
pub words_more : (n words : ℕ) (bytes : List ℕ) → words_in n (suc words) bytes ≡ words_in n words bytes ++ (word_at bytes (words * n) n ∷ [])
unfolding words_in
words_more n zero bytes = rw zero-mul
words_more n (suc words) bytes =
    ap (λ (ws : List ℕ). value_of 256 (take n bytes) ∷ ws)
    (words_more n words (drop n bytes) ∙ ap (λ (w : ℕ). words_in n words (drop n bytes) ++ (w ∷ [])) (word_past n words bytes))

pub length_bytes : (n : ℕ) (words : List ℕ) → length (bytes_for n words) ≡ length words * n
unfolding bytes_for
length_bytes n [] = sym (zero-mul n)
length_bytes n (word ∷ words) = rw (length-append, length_digits) (omega (arith, length_bytes n words, suc-mul (length words) n))

pub bytes_append : (n : ℕ) (words more : List ℕ) → bytes_for n (words ++ more) ≡ bytes_for n words ++ bytes_for n more
unfolding bytes_for
bytes_append n [] more = refl
bytes_append n (word ∷ words) more = rw (bytes_append n words more) (sym (append_assoc (digits 256 n word) (bytes_for n words) (bytes_for n more)))

-- one word more
pub bytes_more : (n : ℕ) (words : List ℕ) (i : ℕ) → i < length words → bytes_for n (take (suc i) words) ≡ bytes_for n (take i words) ++ digits 256 n (get_or words i 0)
unfolding bytes_for
bytes_more n words i h =
    ap (bytes_for n) (take-suc words i 0 h)
    ∙ bytes_append n (take i words) (get_or words i 0 ∷ [])
    ∙ ap (λ (bs : List ℕ). bytes_for n (take i words) ++ bs) (append-nil (digits 256 n (get_or words i 0)))

-- the bytes of words that fit, whatever stands behind them, hold these words
pub words_back : (n : ℕ) (words more : List ℕ) → Below (256 ^ n) words → words_in n (length words) (bytes_for n words ++ more) ≡ words
unfolding words_in bytes_for
words_back n [] more f = refl
words_back n (word ∷ words) more f =
    let l : length (digits 256 n word) ≡ n = length_digits 256 n word in
    let rest : List ℕ = bytes_for n words ++ more in
    rw (append_assoc (digits 256 n word) (bytes_for n words) more, take_at (digits 256 n word) rest n l, drop_at (digits 256 n word) rest n l)
    (ap₂ (λ (w : ℕ) (ws : List ℕ). w ∷ ws) (value_digits 256 n word (omega arith) (f 0)) (words_back n words more (λ i. f (suc i))))

-- the words that bytes hold have these bytes
pub bytes_back : (n words : ℕ) (bytes : List ℕ) → Below 256 bytes → words * n ≤ length bytes → bytes_for n (words_in n words bytes) ≡ take (words * n) bytes
unfolding words_in bytes_for
bytes_back n zero bytes f h = rw zero-mul
bytes_back n (suc words) bytes f h =
    let e : suc words * n ≡ n + words * n = omega (arith, suc-mul words n) in
    let room : words * n ≤ length (drop n bytes) = rw length-drop (omega arith) in
    rw e
    (ap₂ (λ (xs ys : List ℕ). xs ++ ys) (digits_take 256 n bytes f (omega arith)) (bytes_back n words (drop n bytes) (below_drop n bytes f) room)
    ∙ sym (take-add n (words * n) bytes))

-- ---- so many bytes are those of so many words

pub holds_nothing : (bytes words n : ℕ) → n ≡ 0 → eqb bytes 0 ≡ eqb bytes (words * n)
holds_nothing bytes words n e = rw (e, mul-zero)

pub holds_divided : (bytes words n : ℕ) → 0 < n → eqb (bytes / n) words && eqb (bytes % n) 0 ≡ eqb bytes (words * n)
holds_divided bytes words n h = by (eqb bytes (words * n)) refl
  where
    by : (t : Bool) → eqb bytes (words * n) ≡ t → eqb (bytes / n) words && eqb (bytes % n) 0 ≡ t
    by true e = let x = eqb-true bytes (words * n) e in rw (x, mul-div_cancel words h, mul-mod_left, eq-eqb words words refl)
    by false e =
        either (eqb (bytes / n) words && eqb (bytes % n) 0)
        (λ t.
        let both = (and-eq-true_iff (eqb (bytes / n) words) (eqb (bytes % n) 0)).0 t in
        let q = eqb-true (bytes / n) words both.0 in
        let r = eqb-true (bytes % n) 0 both.1 in
        absurd (eqb-false bytes (words * n) e (sym (div-add-mod' bytes n) ∙ rw (q, r) (omega arith))))
        (λ f. f)

-- ---- the loops

put_whole : (out list : List ℕ) → length list ≡ length out → put out 0 list ≡ list
put_whole out list e = put_first out list ∙ rw (drop_of_length-le out (le_of_eq (sym e))) (append-nil list)

-- the first i words of the bytes are read, and the place is that of the next
pub record Taken (out₀ bytes : List ℕ) (n place i : ℕ) (out : List ℕ) : Type 0 where
  pub within : i ≤ length out₀
  pub here : place ≡ i * n
  pub is : out ≡ put out₀ 0 (words_in n i bytes)

module _ (out₀ bytes : List ℕ) (n : ℕ) where
  pub taken_none : Taken out₀ bytes n 0 0 out₀
  unfolding words_in
  taken_none = record { within = omega arith; here = sym (zero-mul n); is = sym (put_none out₀ 0) }

  pub taken_length : (place i : ℕ) (out : List ℕ) → Taken out₀ bytes n place i out → length out ≡ length out₀
  taken_length place i out g = ap length g.is ∙ length_put out₀ 0 (words_in n i bytes) (omega (arith, length_words n i bytes, g.within))

  pub taken_room : (place i : ℕ) (out : List ℕ) → length bytes ≡ length out₀ * n → i < length out → Taken out₀ bytes n place i out → place + n ≤ length bytes
  taken_room place i out whole h g =
      let inside : suc i ≤ length out₀ = omega (arith, taken_length place i out g) in
      omega (arith, g.here, suc-mul i n, mul-le-mul_right n inside)

  pub taken_more : (place i : ℕ) (out : List ℕ) → i < length out → Taken out₀ bytes n place i out
      → Taken out₀ bytes n (place + n) (i + 1) (set out i (word_at bytes place n))
  taken_more place i out h g =
      let l : length (words_in n i bytes) ≡ i = length_words n i bytes in
      let inside : i < length out₀ = omega (arith, taken_length place i out g) in
      record {
        within = omega arith;
        here = rw add-one (omega (arith, g.here, suc-mul i n));
        is =
            rw (g.is, g.here, add-one, words_more n i bytes)
            (rw (zero-add, l) at (put_more out₀ 0 (words_in n i bytes) (word_at bytes (i * n) n) (omega arith)));
      }

  pub taken_all : (place i : ℕ) (out : List ℕ) → length out ≤ i → Taken out₀ bytes n place i out → out ≡ words_in n (length out₀) bytes
  taken_all place i out h g =
      let e : i ≡ length out₀ = omega (arith, g.within, taken_length place i out g) in
      g.is ∙ rw e (put_whole out₀ (words_in n (length out₀) bytes) (length_words n (length out₀) bytes))

-- the bytes of the first i words are put, and the place is that of the next
pub record Laid (out₀ words : List ℕ) (n place i : ℕ) (out : List ℕ) : Type 0 where
  pub within : i ≤ length words
  pub here : place ≡ i * n
  pub is : out ≡ put out₀ 0 (bytes_for n (take i words))

module _ (out₀ words : List ℕ) (n : ℕ) where
  pub laid_none : Laid out₀ words n 0 0 out₀
  unfolding bytes_for
  laid_none = record { within = omega arith; here = sym (zero-mul n); is = sym (put_none out₀ 0) }

  laid_bytes : (i : ℕ) → i ≤ length words → length (bytes_for n (take i words)) ≡ i * n
  laid_bytes i h = length_bytes n (take i words) ∙ rw (length-take-le i words h)

  module _ (whole : length out₀ ≡ length words * n) where
    pub laid_length : (place i : ℕ) (out : List ℕ) → Laid out₀ words n place i out → length out ≡ length out₀
    laid_length place i out s =
        ap length s.is ∙ length_put out₀ 0 (bytes_for n (take i words)) (omega (arith, laid_bytes i s.within, mul-le-mul_right n s.within))

    pub laid_room : (place i : ℕ) (out : List ℕ) → i < length words → Laid out₀ words n place i out → place + n ≤ length out
    laid_room place i out h s = omega (arith, s.here, suc-mul i n, mul-le-mul_right {m = suc i} n h, laid_length place i out s)

    pub laid_more : (place i : ℕ) (out : List ℕ) → i < length words → Laid out₀ words n place i out
        → Laid out₀ words n (place + n) (i + 1) (put out place (digits 256 n (get_or words i 0)))
    laid_more place i out h s =
        let l = laid_bytes i s.within in
        record {
          within = omega arith;
          here = rw add-one (omega (arith, s.here, suc-mul i n));
          is =
              rw (s.is, s.here, add-one, bytes_more n words i h)
              (rw (zero-add, l) at (put_put out₀ 0 (bytes_for n (take i words)) (digits 256 n (get_or words i 0)) (omega (arith, mul-le-mul_right n s.within))));
        }

    pub laid_all : (place i : ℕ) (out : List ℕ) → length words ≤ i → Laid out₀ words n place i out → out ≡ bytes_for n words
    laid_all place i out h s =
        s.is ∙ rw (take_all i words h) (put_whole out₀ (bytes_for n words) (length_bytes n words ∙ sym whole))

-- ---- what reading and writing many answers: a refusal leaves the list, and the count of its entries comes with all of them

module _ (rows : List Row) (list out : List ℕ) where
  pub many_refused : (reason : Reason) → Err reason ≡ judgement rows → WrittenBy rows list out 0 (refusing reason) out
  many_refused reason e = subst (λ (rs : List Row). WrittenBy rs list out 0 (refusing reason) out) (append-nil rows) (written_off rows [] list out 0 reason (judgement_blamed rows reason (sym e)))

  pub whole_left : (out' : List ℕ) → Ok tt ≡ judgement rows → length list ≡ length out → out' ≡ list → WrittenBy rows list out 0 (Complete (length out')) out'
  whole_left out' k l p =
      let e = decided_kept rows (Complete (length list)) (judgement_kept rows (sym k)) in
      record { said = rw e (ap (λ (bs : List ℕ). Complete (length bs)) p); left = rw e (p ∙ sym (put_whole out list l)) }

  kept_left : Kept rows → (answer : Verdict) (out' : List ℕ) → WrittenBy rows list out 0 answer out' → length list ≡ length out → out' ≡ list
  kept_left k answer out' w l = w.left ∙ rw (decided_kept rows (Complete (length list)) k) (put_whole out list l)

module _ (n words bytes : ℕ) where
  pub judged_long : 8 < n → Err ValueLength ≡ judgement (many_rows n words bytes)
  judged_long h = rw (lt-ltb 8 n h)

  module _ (short : n ≤ 8) (held : Bool) (is : held ≡ eqb bytes (words * n)) where
    pub judged_apart : not held ≡ true → Err Disagree ≡ judgement (many_rows n words bytes)
    judged_apart e = rw (le-ltb 8 n short, ← is, e)

    pub judged_kept : not held ≡ false → Ok tt ≡ judgement (many_rows n words bytes)
    judged_kept e = rw (le-ltb 8 n short, ← is, e)

  pub kept_whole : Ok tt ≡ judgement (many_rows n words bytes) → (n ≤ 8) × (bytes ≡ words * n)
  kept_whole e = let k = judgement_kept (many_rows n words bytes) (sym e) in (ltb-false 8 n k.0, eqb-true bytes (words * n) (not-false _ k.1.0))

  pub whole_kept : n ≤ 8 → bytes ≡ words * n → Kept (many_rows n words bytes)
  whole_kept short held = judgement_kept (many_rows n words bytes) (sym (judged_kept short true (sym (eq-eqb bytes (words * n) held)) refl))

  -- where the bytes are as many as the words have, the whole list is left
  pub left_whole : (list out : List ℕ) (answer : Verdict) (out' : List ℕ) → WrittenBy (many_rows n words bytes) list out 0 answer out' → n ≤ 8 → bytes ≡ words * n → length list ≡ length out → out' ≡ list
  left_whole list out answer out' w short held l = kept_left (many_rows n words bytes) list out (whole_kept short held) answer out' w l

-- words that fit are written too
module _ (n : ℕ) (words : List ℕ) (bytes : ℕ) where
  pub judged_words : (judged : Result Unit Reason) → judged ≡ judgement (many_rows n (length words) bytes) → judged ≡ Ok tt → judgement (too_long_rows n words) ≡ judgement (write_rows n words bytes)
  judged_words judged e k = sym (judgement_on (many_rows n (length words) bytes) (too_long_rows n words) (sym e ∙ k))

  pub judged_off : (reason : Reason) → Err reason ≡ judgement (many_rows n (length words) bytes) → Err reason ≡ judgement (write_rows n words bytes)
  judged_off reason e = sym (judgement_off (many_rows n (length words) bytes) (too_long_rows n words) reason (sym e))

  pub fit_whole : Ok tt ≡ judgement (write_rows n words bytes) → (n ≤ 8) × (bytes ≡ length words * n)
  fit_whole e =
      let k = (both_kept (many_rows n (length words) bytes) (too_long_rows n words) (judgement_kept (write_rows n words bytes) (sym e))).0 in
      kept_whole n (length words) bytes (sym (kept_judgement (many_rows n (length words) bytes) k))

  pub left_written : (list out : List ℕ) (answer : Verdict) (out' : List ℕ) → WrittenBy (write_rows n words bytes) list out 0 answer out' → n ≤ 8 → bytes ≡ length words * n → all_below (256 ^ n) words ≡ true → length list ≡ length out → out' ≡ list
  left_written list out answer out' w short held fit l =
      kept_left (write_rows n words bytes) list out (kept_both (many_rows n (length words) bytes) (too_long_rows n words) (whole_kept n (length words) bytes short held) (rw fit, tt)) answer out' w l
