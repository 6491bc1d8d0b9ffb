-- What reading a word of so many bytes at a place finds, and what writing one there leaves.
use Rattle.std.specs.Prelude.{ℕ, ◌-◌, ◌^◌, cond, List, [], ◌∷◌, Result, Ok, Err, length, take, drop, leb, ltb}
use Rattle.verdict.specs.declared.Reason.TheVariants.{ValueLength, ValueRange, SmallBuffer}
use Rattle.verdict.specs.declared.Stop.{Stop}
use Rattle.verdict.specs.declared.Stop.TheVariants.{Unfinished, Refused}
use Rattle.verdict.specs.declared.Verdict.{Verdict}
use Rattle.verdict.specs.Rows.{Row}
use Rattle.verdict.specs.Writing.{WrittenBy}
use Rattle.word.specs.Digits.{digits, value_of}

-- the word of n bytes at a place, big-endian
abbrev pub word_at : List ℕ → ℕ → ℕ → ℕ
word_at bytes place n = value_of 256 (take n (drop place bytes))

-- the word that bytes are; 0 where they are more than eight
abbrev pub word_of : List ℕ → ℕ
word_of bytes = cond (ltb 8 (length bytes)) 0 (value_of 256 bytes)

-- refused 6 above eight bytes; unfinished by those of its bytes that are not there; else the word
abbrev pub read_of : List ℕ → ℕ → ℕ → Result ℕ Stop
read_of bytes place n =
    cond (ltb 8 n) (Err (Refused (record { reason = ValueLength; place = 0 })))
    (cond (ltb (length bytes - place) n) (Err (Unfinished (n - (length bytes - place)))) (Ok (word_at bytes place n)))

-- 6 above eight bytes; 11 for a word too long for its length; 13
abbrev pub word_rows : List ℕ → ℕ → ℕ → ℕ → List Row
word_rows out place n word =
    record { broken = ltb 8 n; reason = ValueLength }
    ∷ record { broken = leb (256 ^ n) word; reason = ValueRange }
    ∷ record { broken = ltb (length out - place) n; reason = SmallBuffer }
    ∷ []

-- what writing a word of n bytes at a place answers and leaves
abbrev pub Written : List ℕ → ℕ → ℕ → ℕ → Verdict → List ℕ → Type 0
Written out place n word = WrittenBy (word_rows out place n word) (digits 256 n word) out place
