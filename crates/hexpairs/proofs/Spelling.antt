-- Bytes and their texts: what bytes are spelled as is pairs of digits that spell them, and pairs of digits are what their bytes are spelled as. Assumes nothing.
use Prim.Native.Nat.{ℕ, zero, suc, ◌+◌, ◌-◌, ◌*◌, ◌/◌, ◌%◌, ◌≤◌}
use mathlib.Core.Path.{◌≡◌, refl, ap, ap₂}
use mathlib.Core.Bool.{true, ◌&&◌, false≢true, and-eq-true_iff}
use mathlib.Core.List.{List, [], ◌∷◌}
use native.Mathlib.Omega.{arith}
use borrow.Author.Tests.{leb-true, leb-false, le-leb, lt-leb}
use lib.Dec.{leb}
use lib.ListN.{length}
use Rattle.verdict.specs.Says.{Bytes}
use Rattle.verdict.proofs.Cases.{by_test}
use Rattle.hexpairs.specs.Hex.{is_digit, digit_of, is_hex, hex_of, character_of, spelling}
use Rattle.hexpairs.proofs.DigitPairs.{digit_ranges, digit_worth}

-- ---- one digit

character_digit : (value : ℕ) → value ≤ 15 → is_digit (character_of value) ≡ true
character_digit value h =
    by_test (λ (c : ℕ). is_digit c ≡ true) (leb value 9) (48 + value) (55 + value)
    (λ t. let l = leb-true value 9 t in rw (le-leb 48 (48 + value) (omega arith), le-leb (48 + value) 57 (omega arith)))
    (λ t. let l = leb-false value 9 t in rw (le-leb 48 (55 + value) (omega arith), lt-leb (55 + value) 57 (omega arith), le-leb 65 (55 + value) (omega arith), le-leb (55 + value) 70 (omega arith)))

character_worth : (value : ℕ) → digit_of (character_of value) ≡ value
character_worth value =
    by_test (λ (c : ℕ). digit_of c ≡ value) (leb value 9) (48 + value) (55 + value)
    (λ t. let l = leb-true value 9 t in rw (le-leb (48 + value) 57 (omega arith)) (omega arith))
    (λ t. let l = leb-false value 9 t in rw (lt-leb (55 + value) 57 (omega arith)) (omega arith))

digit_character : (c : ℕ) → is_digit c ≡ true → character_of (digit_of c) ≡ c
digit_character c h =
    digit_ranges c h (λ a b. rw (le-leb c 57 b, le-leb (c - 48) 9 (omega arith)) (omega arith))
    (λ a b. rw (lt-leb c 57 (omega arith), lt-leb (c - 55) 9 (omega arith)) (omega arith))

-- ---- texts

-- the text of bytes is pairs of digits
pub spelling_hex : (w : List ℕ) → Bytes w → is_hex (spelling w) ≡ true
unfolding is_hex spelling
spelling_hex [] h = refl
spelling_hex (b ∷ w) h =
    rw (character_digit (b / 16) (omega (arith, h 0)), character_digit (b % 16) (omega arith)) (spelling_hex w (λ i. h (suc i)))

-- and spells them
pub hex_spelling : (w : List ℕ) → hex_of (spelling w) ≡ w
unfolding hex_of spelling
hex_spelling [] = refl
hex_spelling (b ∷ w) = ap₂ (λ (x : ℕ) (xs : List ℕ). x ∷ xs) (rw (character_worth (b / 16), character_worth (b % 16)) (omega arith)) (hex_spelling w)

pub length_spelling : (w : List ℕ) → length (spelling w) ≡ 2 * length w
unfolding spelling
length_spelling [] = refl
length_spelling (b ∷ w) = omega (arith, length_spelling w)

-- pairs of digits are the text of what they spell
pub spelling_back : (text : List ℕ) → is_hex text ≡ true → spelling (hex_of text) ≡ text
unfolding is_hex hex_of spelling
spelling_back [] h = refl
spelling_back (a ∷ []) h = absurd (false≢true h)
spelling_back (a ∷ b ∷ text) h =
    let both = (and-eq-true_iff (is_digit a) (is_digit b && is_hex text)).0 h in
    let more = (and-eq-true_iff (is_digit b) (is_hex text)).0 both.1 in
    let high = digit_of a in
    let low = digit_of b in
    let small = (digit_worth b more.0).1 in
    let first : (high * 16 + low) / 16 ≡ high = omega (arith, small) in
    let second : (high * 16 + low) % 16 ≡ low = omega (arith, small) in
    rw (first, second, digit_character a both.0, digit_character b more.0) (ap (λ (l : List ℕ). a ∷ b ∷ l) (spelling_back text more.1))

-- which are bytes
pub hex_bytes : (text : List ℕ) → is_hex text ≡ true → Bytes (hex_of text)
unfolding is_hex hex_of
hex_bytes [] h i = omega arith
hex_bytes (a ∷ []) h i = absurd (false≢true h)
hex_bytes (a ∷ b ∷ text) h zero =
    let both = (and-eq-true_iff (is_digit a) (is_digit b && is_hex text)).0 h in
    let more = (and-eq-true_iff (is_digit b) (is_hex text)).0 both.1 in
    omega (arith, (digit_worth a both.0).1, (digit_worth b more.0).1)
hex_bytes (a ∷ b ∷ text) h (suc i) =
    let both = (and-eq-true_iff (is_digit a) (is_digit b && is_hex text)).0 h in
    hex_bytes text ((and-eq-true_iff (is_digit b) (is_hex text)).0 both.1).1 i
