-- Laws of pairs of hexadecimal digits: which texts are such pairs, what a digit is worth, the bytes spelled so far, and what `decode` answers. Assumes nothing.
use Prim.Native.Nat.{ℕ, suc, ◌+◌, ◌*◌, ◌/◌, ◌%◌, ◌≤◌, ◌<◌}
use mathlib.Core.Path.{◌≡◌, refl, sym, ap, ◌∙◌, subst}
use mathlib.Core.Bool.{Bool, true, false, not, ◌&&◌, and-false, and_assoc, and-eq-true_iff}
use mathlib.Core.List.{List, [], ◌∷◌, ◌++◌, append-nil}
use Rattle.std.specs.List.{fold}
use native.Mathlib.Numerals.{add-one}
use native.Mathlib.Omega.{arith}
use borrow.Author.Tests.{leb-true, le-leb, lt-leb, le-ltb}
use lib.Dec.{leb}
use lib.ListN.{length, take, drop, get_or, set, length-append, length-drop}
use lib.Seq.{drop-cons, take-suc-set, append_snoc, take_at, take_all}
use Rattle.verdict.specs.declared.Reason.TheVariants.{Character, SmallBuffer}
use Rattle.verdict.specs.declared.Verdict.{Verdict}
use Rattle.verdict.specs.declared.Verdict.TheVariants.{Complete, Unfinished, Refused}
use Rattle.verdict.specs.Rows.{Row, Blamed}
use Rattle.verdict.specs.Writing.{refusing, decided, room_rows}
use Rattle.verdict.proofs.Cases.{either, or_left}
use Rattle.verdict.proofs.Deciding.{written_on, written_off, kept_written, room_missing, room_enough}
use Rattle.verdict.proofs.Putting.{put_first}
use Rattle.hexpairs.specs.Hex.{is_digit, digit_of, is_hex, hex_of, hex_rows, Decoded}

-- whether each character is a digit, and `good`
abbrev digits : Bool → List ℕ → Bool
digits good text = fold (λ (t : Bool) (c : ℕ). t && is_digit c) good text

digits_false : (text : List ℕ) → digits false text ≡ false
digits_false [] = refl
digits_false (c ∷ text) = digits_false text

digits_first : (good : Bool) (text : List ℕ) → digits good text ≡ good && digits true text
digits_first true text = refl
digits_first false text = digits_false text

pub odd_not_hex : (text : List ℕ) → length text % 2 ≡ 1 → is_hex text ≡ false
unfolding is_hex
odd_not_hex [] h = absurd (omega arith)
odd_not_hex (a ∷ []) h = refl
odd_not_hex (a ∷ b ∷ text) h = simp (odd_not_hex text (omega arith), and-false)

pub even_hex : (text : List ℕ) → length text % 2 ≡ 0 → is_hex text ≡ fold (λ (good : Bool) (c : ℕ). good && is_digit c) true text
unfolding is_hex
even_hex [] h = refl
even_hex (a ∷ []) h = absurd (omega arith)
even_hex (a ∷ b ∷ text) h = rw (even_hex text (omega arith)) (sym (digits_first (is_digit a && is_digit b) text ∙ and_assoc (is_digit a) (is_digit b) (digits true text)))

-- the decimal digits and the letters
pub digit_ranges : {P : Type 0} (c : ℕ) → is_digit c ≡ true → (48 ≤ c → c ≤ 57 → P) → (65 ≤ c → c ≤ 70 → P) → P
digit_ranges c h f g =
    either (leb 65 c && leb c 70)
    (λ e. let both = (and-eq-true_iff (leb 65 c) (leb c 70)).0 e in g (leb-true 65 c both.0) (leb-true c 70 both.1))
    (λ e.
    let both = (and-eq-true_iff (leb 48 c) (leb c 57)).0 (or_left (leb 48 c && leb c 57) (leb 65 c && leb c 70) h e) in
    f (leb-true 48 c both.0) (leb-true c 57 both.1))

-- the low four bits of a digit, and 9 more for a letter
pub digit_worth : (c : ℕ) → is_digit c ≡ true → (c % 16 + 9 * (c / 64) ≡ digit_of c) × (digit_of c ≤ 15)
digit_worth c h = digit_ranges c h (λ a b. rw (le-leb c 57 b) (omega arith)) (λ a b. rw (lt-leb c 57 (omega arith)) (omega arith))

hex_length : (text : List ℕ) → length (hex_of text) ≡ length text / 2
unfolding hex_of
hex_length [] = refl
hex_length (a ∷ []) = refl
hex_length (a ∷ b ∷ text) = omega (arith, hex_length text)

-- what is spelled in front of bytes, and their length
hex_front : (text bytes : List ℕ) → take (length text / 2) (hex_of text ++ bytes) ≡ hex_of text
hex_front text bytes = take_at (hex_of text) bytes (length text / 2) (hex_length text)

hex_over : (text out : List ℕ) → length text / 2 ≤ length out → length (hex_of text ++ drop (length text / 2) out) ≡ length out
hex_over text out h = simp (length-append, length-drop, hex_length) (omega arith)

hex_none : (text : List ℕ) → length text ≤ 1 → hex_of text ≡ []
unfolding hex_of
hex_none [] h = refl
hex_none (a ∷ []) h = refl
hex_none (a ∷ b ∷ text) h = absurd (omega arith)

-- the two characters of pair i, and what follows them
pair_drop : (text : List ℕ) (i : ℕ) → i < length text / 2 → drop (2 * i) text ≡ get_or text (2 * i) 0 ∷ get_or text (2 * i + 1) 0 ∷ drop (2 * (i + 1)) text
pair_drop text i h =
    let e : 2 * (i + 1) ≡ suc (suc (2 * i)) = omega arith in
    rw (e, add-one, drop-cons text (2 * i) 0 (omega arith), drop-cons text (suc (2 * i)) 0 (omega arith))

-- the pairs before i are spelled in `out`
pub record Spelled (text : List ℕ) (i : ℕ) (out : List ℕ) : Type 0 where
  pub pairs : is_hex (drop (2 * i) text) ≡ true
  pub means : hex_of text ≡ take i out ++ hex_of (drop (2 * i) text)

module _ (text : List ℕ) where
  module _ (i : ℕ) (out : List ℕ) (s : Spelled text i out) where
    module _ (within : i < length text / 2) where
      pub pair_digits : (is_digit (get_or text (2 * i) 0) ≡ true) × ((is_digit (get_or text (2 * i + 1) 0) ≡ true) × (is_hex (drop (2 * (i + 1)) text) ≡ true))
      unfolding is_hex
      pair_digits =
          let here = rw (pair_drop text i within) at s.pairs in
          let both = (and-eq-true_iff (is_digit (get_or text (2 * i) 0)) (is_digit (get_or text (2 * i + 1) 0) && is_hex (drop (2 * (i + 1)) text))).0 here in
          (both.0, (and-eq-true_iff (is_digit (get_or text (2 * i + 1) 0)) (is_hex (drop (2 * (i + 1)) text))).0 both.1)

      pub spelled_more : (high low : ℕ) → high ≡ digit_of (get_or text (2 * i) 0) → low ≡ digit_of (get_or text (2 * i + 1) 0) → i < length out → Spelled text (i + 1) (set out i (high * 16 + low))
      unfolding hex_of
      spelled_more high low h l room =
          let byte = high * 16 + low in
          let front : take (i + 1) (set out i byte) ≡ take i out ++ (byte ∷ []) = rw add-one (take-suc-set out i byte room) in
          record { pairs = pair_digits.1.1; means = s.means ∙ rw (pair_drop text i within, front, append_snoc, h, l) }

    pub spelled_all : i ≡ length text / 2 → length out ≡ i → out ≡ hex_of text
    spelled_all h k =
        let none : hex_of (drop (2 * i) text) ≡ [] = hex_none (drop (2 * i) text) (rw length-drop (omega arith)) in
        sym (s.means ∙ rw (none, append-nil, take_all i out (omega arith)))

-- what `decode` answers: the text is no pairs of digits, its bytes have no room, or they are spelled
module _ (text out : List ℕ) where
  abbrev character_rows : List Row
  character_rows = record { broken = not (is_hex text); reason = Character } ∷ []

  abbrev last_rows : List Row
  last_rows = room_rows (length (hex_of text)) (length out)

  pub decoded_none : is_hex text ≡ false → Decoded text out (refusing Character) out
  unfolding Blamed
  decoded_none h = written_off character_rows last_rows (hex_of text) out 0 Character (rw h)

  module _ (pairs : is_hex text ≡ true) where
    pub decoded_small : length out < length text / 2 → Decoded text out (refusing SmallBuffer) out
    decoded_small h =
        written_on character_rows last_rows (hex_of text) out 0 (refusing SmallBuffer) out (rw pairs, tt) (room_missing (hex_of text) out 0 (length out) (rw hex_length h))

    pub decoded_all : length text / 2 ≤ length out → (out' : List ℕ) → out' ≡ hex_of text ++ drop (length text / 2) out → Decoded text out (Complete (length text / 2)) out'
    decoded_all h out' e =
        let count = hex_length text in
        written_on character_rows last_rows (hex_of text) out 0 (Complete (length text / 2)) out' (rw pairs, tt)
        (room_enough (hex_of text) out 0 (length out) (length text / 2) out' (rw count h) (sym count) (e ∙ sym (put_first out (hex_of text) ∙ rw count)))

  -- what an answer tells where the bytes have room
  abbrev pub Tells : Verdict → List ℕ → Type 0
  Tells (Complete n) out' = (is_hex text ≡ true) × ((n ≡ length text / 2) × (take n out' ≡ hex_of text))
  Tells (Unfinished n) out' = ⊥
  Tells (Refused refusal) out' = (is_hex text ≡ false) × (refusal ≡ record { reason = Character; place = 0 })

  module _ (room : length text / 2 ≤ length out) (answer : Verdict) (out' : List ℕ) (d : Decoded text out answer out') where
    decoded_hex : is_hex text ≡ true → (answer ≡ Complete (length text / 2)) × (out' ≡ hex_of text ++ drop (length text / 2) out)
    decoded_hex h =
        let count = hex_length text in
        let w = kept_written (hex_rows text out) (hex_of text) out answer out' (rw h, (rw count (le-ltb (length out) (length text / 2) room), tt)) d in
        (w.0 ∙ ap Complete count, w.1 ∙ rw count)

    decoded_other : is_hex text ≡ false → (answer ≡ refusing Character) × (out' ≡ out)
    unfolding decided
    decoded_other h = let t : decided (hex_rows text out) (Complete (length (hex_of text))) ≡ refusing Character = rw h in (d.said ∙ t, d.left ∙ rw t)

    pub decoded_tells : Tells answer out'
    decoded_tells =
        either (is_hex text)
        (λ h. subst (λ (v : Verdict). Tells v out') (sym (decoded_hex h).0) (h, (refl, ap (take (length text / 2)) (decoded_hex h).1 ∙ hex_front text (drop (length text / 2) out))))
        (λ h. subst (λ (v : Verdict). Tells v out') (sym (decoded_other h).0) (h, refl))

    pub decoded_length : length out' ≡ length out
    decoded_length = either (is_hex text) (λ h. ap length (decoded_hex h).1 ∙ hex_over text out room) (λ h. ap length (decoded_other h).1)
