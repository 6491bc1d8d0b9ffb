-- Words of one length, one after the other: those that bytes hold, and their bytes.
use Rattle.std.specs.Prelude.{ℕ, zero, suc, ◌*◌, ◌^◌, Bool, true, not, ◌&&◌, List, [], ◌∷◌, ◌++◌, length, take, drop, eqb, ltb}
use Rattle.std.specs.Int.Bits.{bit_or}
use Rattle.verdict.specs.declared.Reason.TheVariants.{ValueLength, Disagree, ValueRange}
use Rattle.verdict.specs.declared.Verdict.{Verdict}
use Rattle.verdict.specs.Rows.{Row}
use Rattle.verdict.specs.Writing.{WrittenBy}
use Rattle.word.specs.Digits.{digits, value_of}

-- the first so many words of n bytes each, big-endian
unfoldable pub words_in : ℕ → ℕ → List ℕ → List ℕ
words_in n zero bytes = []
words_in n (suc words) bytes = value_of 256 (take n bytes) ∷ words_in n words (drop n bytes)

-- the bytes of words, n for each
unfoldable pub bytes_for : ℕ → List ℕ → List ℕ
bytes_for n [] = []
bytes_for n (word ∷ words) = digits 256 n word ++ bytes_for n words

-- 6 above eight bytes; 14 where the bytes are not as many as the words have
abbrev pub many_rows : ℕ → ℕ → ℕ → List Row
many_rows n words bytes = record { broken = ltb 8 n; reason = ValueLength } ∷ record { broken = not (eqb bytes (words * n)); reason = Disagree } ∷ []

-- whether each word is below a limit
unfoldable pub all_below : ℕ → List ℕ → Bool
all_below limit [] = true
all_below limit (word ∷ words) = ltb word limit && all_below limit words

-- all the bits that a value and some words have
unfoldable pub gathered_on : ℕ → List ℕ → ℕ
gathered_on value [] = value
gathered_on value (word ∷ words) = gathered_on (bit_or value word) words

abbrev pub gathered : List ℕ → ℕ
gathered words = gathered_on 0 words

-- for writing also 11, behind these, for a word too long for its length
abbrev pub too_long_rows : ℕ → List ℕ → List Row
too_long_rows n words = record { broken = not (all_below (256 ^ n) words); reason = ValueRange } ∷ []

abbrev pub write_rows : ℕ → List ℕ → ℕ → List Row
write_rows n words bytes = many_rows n (length words) bytes ++ too_long_rows n words

-- what reading as many words as a list has entries answers, and leaves in it
abbrev pub ReadInto : List ℕ → ℕ → List ℕ → Verdict → List ℕ → Type 0
ReadInto bytes n out = WrittenBy (many_rows n (length out) (length bytes)) (words_in n (length out) bytes) out 0

-- what writing words over all of some bytes answers, and leaves in them
abbrev pub WrittenOver : List ℕ → ℕ → List ℕ → Verdict → List ℕ → Type 0
WrittenOver out n words = WrittenBy (write_rows n words (length out)) (bytes_for n words) out 0
