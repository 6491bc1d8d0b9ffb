-- Laws of words below a limit, and of the bits that they have together. Assumes nothing.
use Prim.Native.Nat.{ℕ, zero, suc, ◌+◌, ◌*◌, ◌^◌, ◌≤◌, ◌<◌}
use mathlib.Core.Path.{◌≡◌, refl, ◌∙◌, ap}
use mathlib.Core.Bool.{Bool, true, false, not, ◌&&◌, and_assoc}
use mathlib.Core.List.{List, [], ◌∷◌, ◌++◌}
use native.Mathlib.Omega.{arith}
use native.Mathlib.Numerals.{add-one}
use borrow.Author.Tests.{lt-ltb, le-ltb, ltb-true, ltb-false}
use lib.Bits.{bit_or, or_lt, or_add_and, and_le_l, and_le_r}
use lib.Dec.{ltb}
use lib.ListN.{length, take, get_or}
use lib.Pow.{pow_pos}
use lib.Seq.{take-suc}
use Rattle.std.specs.Prelude.{Ok, Err}
use Rattle.verdict.specs.declared.Reason.TheVariants.{ValueRange}
use Rattle.verdict.specs.Judgement.{judgement}
use Rattle.verdict.proofs.Cases.{both_true}
use Rattle.word.specs.Many.{all_below, gathered_on, gathered, too_long_rows}
use Rattle.word.proofs.Digits.{bytes_bits}

-- ---- what two numbers have together is no less than either, and below a power of two where both are

pub or_most : (a b : ℕ) → (a ≤ bit_or a b) × (b ≤ bit_or a b)
or_most a b = (omega (arith, or_add_and a b, and_le_r a b), omega (arith, or_add_and a b, and_le_l a b))

or_below : (k a b : ℕ) → ltb (bit_or a b) (2 ^ k) ≡ ltb a (2 ^ k) && ltb b (2 ^ k)
or_below k a b = go (ltb a (2 ^ k)) (ltb b (2 ^ k)) refl refl
  where
    go : (s t : Bool) → ltb a (2 ^ k) ≡ s → ltb b (2 ^ k) ≡ t → ltb (bit_or a b) (2 ^ k) ≡ s && t
    go true true e f = lt-ltb (bit_or a b) (2 ^ k) (or_lt k a b (ltb-true a (2 ^ k) e) (ltb-true b (2 ^ k) f))
    go true false e f = let h = ltb-false b (2 ^ k) f in le-ltb (bit_or a b) (2 ^ k) (omega (arith, (or_most a b).1))
    go false t e f = let h = ltb-false a (2 ^ k) e in le-ltb (bit_or a b) (2 ^ k) (omega (arith, (or_most a b).0))

-- ---- and so of words

gathered_on_below : (k value : ℕ) (words : List ℕ) → ltb (gathered_on value words) (2 ^ k) ≡ ltb value (2 ^ k) && all_below (2 ^ k) words
unfolding gathered_on all_below
gathered_on_below k value [] = alone (ltb value (2 ^ k))
  where
    alone : (t : Bool) → t ≡ t && true
    alone true = refl
    alone false = refl
gathered_on_below k value (word ∷ words) =
    gathered_on_below k (bit_or value word) words ∙ ap (λ (t : Bool). t && all_below (2 ^ k) words) (or_below k value word) ∙ and_assoc (ltb value (2 ^ k)) (ltb word (2 ^ k)) (all_below (2 ^ k) words)

-- words fit in n bytes where all their bits together do
pub gathered_fits : (n : ℕ) (words : List ℕ) → ltb (gathered words) (256 ^ n) ≡ all_below (256 ^ n) words
gathered_fits n words =
    rw (bytes_bits n) (gathered_on_below (8 * n) 0 words ∙ ap (λ (t : Bool). t && all_below (2 ^ (8 * n)) words) (lt-ltb 0 (2 ^ (8 * n)) (pow_pos (8 * n))))

gathered_on_most : (value : ℕ) (words : List ℕ) → (value ≤ gathered_on value words) × ((i : ℕ) → get_or words i 0 ≤ gathered_on value words)
unfolding gathered_on
gathered_on_most value [] = (omega arith, λ i. omega arith)
gathered_on_most value (word ∷ words) =
    let more = gathered_on_most (bit_or value word) words in
    (omega (arith, (or_most value word).0, more.0), at more.0 more.1)
  where
    at : bit_or value word ≤ gathered_on (bit_or value word) words → ((i : ℕ) → get_or words i 0 ≤ gathered_on (bit_or value word) words) → (i : ℕ) → get_or (word ∷ words) i 0 ≤ gathered_on (bit_or value word) words
    at h f zero = omega (arith, (or_most value word).1, h)
    at h f (suc i) = f i

-- no word is greater
pub gathered_most : (words : List ℕ) (i : ℕ) → get_or words i 0 ≤ gathered words
gathered_most words i = (gathered_on_most 0 words).1 i

-- one word more
gathered_behind : (value : ℕ) (words : List ℕ) (word : ℕ) → gathered_on value (words ++ (word ∷ [])) ≡ bit_or (gathered_on value words) word
unfolding gathered_on
gathered_behind value [] word = refl
gathered_behind value (w ∷ words) word = gathered_behind (bit_or value w) words word

pub gathered_more : (words : List ℕ) (i : ℕ) → i < length words → gathered (take (i + 1) words) ≡ bit_or (gathered (take i words)) (get_or words i 0)
gathered_more words i h = rw (add-one, take-suc words i 0 h) (gathered_behind 0 (take i words) (get_or words i 0))

pub gathered_none : gathered [] ≡ 0
unfolding gathered_on
gathered_none = refl

-- words are below a limit where each is
pub all_below_lem : (limit : ℕ) (words : List ℕ) → ((i : ℕ) → i < length words → get_or words i 0 < limit) → all_below limit words ≡ true
unfolding all_below
all_below_lem limit [] h = refl
all_below_lem limit (word ∷ words) h = rw (lt-ltb word limit (h 0 (omega arith)), all_below_lem limit words (λ i l. h (suc i) (omega arith)))

-- and each is where all are
pub below_at : (limit : ℕ) (words : List ℕ) → all_below limit words ≡ true → (i : ℕ) → i < length words → get_or words i 0 < limit
unfolding all_below
below_at limit [] all i h = absurd (omega arith)
below_at limit (word ∷ words) all zero h = ltb-true word limit (both_true (ltb word limit) (all_below limit words) all).0
below_at limit (word ∷ words) all (suc i) h = below_at limit words (both_true (ltb word limit) (all_below limit words) all).1 i (omega arith)

-- one that is not is enough
pub not_all_below : (limit : ℕ) (words : List ℕ) (i : ℕ) → i < length words → limit ≤ get_or words i 0 → all_below limit words ≡ false
not_all_below limit words i h k = go (all_below limit words) refl
  where
    go : (t : Bool) → all_below limit words ≡ t → t ≡ false
    go true e = absurd (omega (arith, below_at limit words e i h))
    go false e = refl

-- ---- what a word too long is answered

pub fit_kept : (n : ℕ) (words : List ℕ) → not (all_below (256 ^ n) words) ≡ false → Ok tt ≡ judgement (too_long_rows n words)
fit_kept n words e = rw e

pub long_broken : (n : ℕ) (words : List ℕ) → not (all_below (256 ^ n) words) ≡ true → Err ValueRange ≡ judgement (too_long_rows n words)
long_broken n words e = rw e
