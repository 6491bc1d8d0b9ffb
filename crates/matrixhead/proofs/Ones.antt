-- The ones of a bit vector, counted in words of eight bytes. Assumes nothing.
use Prim.Native.Nat.{ℕ, zero, suc, ◌+◌, ◌*◌, ◌≤◌, ◌<◌}
use mathlib.Core.Path.{◌≡◌, refl, sym, ap, subst, ◌∙◌}
use mathlib.Core.List.{List, [], ◌∷◌}
use native.Mathlib.Omega.{arith}
use lib.Count.{ones}
use lib.ListN.{length, take, drop, get_or, take-append-drop}
use lib.Seq.{take_all}
use Rattle.std.specs.Int.{w64, from_be_bytes}
use Rattle.std.specs.Simd.{first_chunks}
use Rattle.word.specs.Digits.{value_on, value_of}
use Rattle.word.proofs.Digits.{Below}
use Rattle.matrix.specs.Meaning.{sum}
use Rattle.matrix.specs.Header.{bits}
use Rattle.matrix.proofs.BitVector.{sum_append, bits_append}
use Rattle.matrix.proofs.Ones.{ones_most, ones_more, ones_value, ones_both}
use Rattle.matrixhead.specs.Parts.{ones_in}

-- of so many bytes there are at most eight for each
pub bits_most : (bytes : List ℕ) → sum (bits bytes) ≤ length bytes * 8
bits_most bytes = subst (λ (v : List ℕ). sum (bits v) ≤ length bytes * 8) (take_all (length bytes) bytes (omega arith)) (ones_most (length bytes) bytes)

-- the ones of one byte more
pub byte_ones : (bytes : List ℕ) (i v : ℕ) → get_or bytes i 0 < 256 → i < length bytes → v ≡ sum (bits (take i bytes)) → v + ones (get_or bytes i 0) ≡ sum (bits (take (i + 1) bytes))
byte_ones bytes i v small here e =
    let z : 0 + i ≡ i = omega arith in
    subst (λ (k : ℕ). get_or bytes k 0 < 256 → k < length bytes → v ≡ sum (bits (take i bytes)) → v + ones (get_or bytes k 0) ≡ sum (bits (take (i + 1) bytes))) z (ones_more bytes 0 i v) small here e

-- eight bytes spell the number that they are read as
word_value : (bytes : List ℕ) → length bytes ≡ 8 → from_be_bytes w64 bytes ≡ value_of 256 bytes
unfolding value_on
word_value (a ∷ b ∷ c ∷ d ∷ e ∷ f ∷ g ∷ h ∷ []) l = omega arith
word_value (a ∷ b ∷ c ∷ d ∷ e ∷ f ∷ g ∷ h ∷ i ∷ more) l = absurd (omega arith)
word_value (a ∷ b ∷ c ∷ d ∷ e ∷ f ∷ g ∷ []) l = absurd (omega arith)
word_value (a ∷ b ∷ c ∷ d ∷ e ∷ f ∷ []) l = absurd (omega arith)
word_value (a ∷ b ∷ c ∷ d ∷ e ∷ []) l = absurd (omega arith)
word_value (a ∷ b ∷ c ∷ d ∷ []) l = absurd (omega arith)
word_value (a ∷ b ∷ c ∷ []) l = absurd (omega arith)
word_value (a ∷ b ∷ []) l = absurd (omega arith)
word_value (a ∷ []) l = absurd (omega arith)
word_value [] l = absurd (omega arith)

-- so its ones are theirs
pub word_ones : (bytes : List ℕ) → Below 256 bytes → length bytes ≡ 8 → ones (from_be_bytes w64 bytes) ≡ sum (bits bytes)
word_ones bytes small l = ap ones (word_value bytes l) ∙ ones_value bytes small

-- the words that bytes are cut into have the ones of those bytes
chunk_ones : (k : ℕ) (bytes : List ℕ) → ones_in (first_chunks 8 k bytes) ≡ sum (bits (take (k * 8) bytes))
unfolding sum bits
chunk_ones zero bytes = refl
chunk_ones (suc k) bytes =
    let e : suc k * 8 ≡ 8 + k * 8 = omega arith in
    rw (e, ones_both 8 (k * 8) bytes, chunk_ones k (drop 8 bytes)) refl

-- and with those behind them all
pub chunks_ones : (k : ℕ) (bytes : List ℕ) → ones_in (first_chunks 8 k bytes) + sum (bits (drop (k * 8) bytes)) ≡ sum (bits bytes)
chunks_ones k bytes =
    rw chunk_ones (sym (sum_append (bits (take (k * 8) bytes)) (bits (drop (k * 8) bytes))) ∙ ap sum (sym (bits_append (take (k * 8) bytes) (drop (k * 8) bytes))) ∙ ap (λ (v : List ℕ). sum (bits v)) (take-append-drop (k * 8) bytes))
