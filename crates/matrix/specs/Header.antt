-- What stands before the words of a matrix pack: the size, the control bytes and the bit vector.
use Rattle.std.specs.Prelude.{ℕ, ◌+◌, ◌*◌, ◌/◌, ◌%◌, min, Bool, true, false, ◌&&◌, cond, List, [], ◌∷◌, ◌++◌, take, drop, replicate, get_or, eqb}
use Rattle.word.specs.Digits.{digits}
use Rattle.matrix.specs.declared.Fields.{Fields}
use Rattle.matrix.specs.declared.Told.{Told}
use Rattle.matrix.specs.Meaning.{pairs, sum}

-- ---- the header: the size and the control bytes

-- a flag as a bit
abbrev pub bit : Bool → ℕ
bit b = cond b 1 0

-- Mode 2's control byte 1: bit 7 is 1, bit 6 is 0, Cs, Cf, Clen
abbrev pub control1 : Fields → ℕ
control1 f = 128 + (bit f.cs * 32 + (bit f.cf * 16 + f.clen))

-- Mode 2's control byte 2: bits 7 to 5 are 0, Sf, Slen
abbrev pub control2 : Fields → ℕ
control2 f = bit f.sf * 16 + f.slen

-- Mode 1's one control byte: bit 7 is 0, Slen, Cs, Clen
abbrev pub control : Fields → ℕ
control f = f.slen * 16 + (bit f.cs * 8 + f.clen)

-- the header's bytes
unfoldable pub header_of : Fields → List ℕ
header_of f = f.n ∷ cond f.mode1 (control f ∷ []) (control1 f ∷ control2 f ∷ [])

-- how many they are
unfoldable pub header_bytes : Fields → ℕ
header_bytes f = cond f.mode1 2 3

-- the size with what control byte 1 says
abbrev pub first : ℕ → ℕ → Fields
first n c = record { n = n; cs = eqb (c / 32 % 2) 1; cf = eqb (c / 16 % 2) 1; clen = c % 16; sf = false; slen = 0; mode1 = false }

-- and with what control byte 2 says
abbrev pub second : Fields → ℕ → Fields
second f d = record { n = f.n; cs = f.cs; cf = f.cf; clen = f.clen; sf = eqb (d / 16 % 2) 1; slen = d % 16; mode1 = f.mode1 }

-- the size with what Mode 1's control byte says: coefficients are mapped, deviations as told
abbrev pub single : Told → ℕ → ℕ → Fields
single told n c = record { n = n; cs = eqb (c / 8 % 2) 1; cf = true; clen = c % 8; sf = told.mapped; slen = c / 16 % 8; mode1 = true }

-- whether the byte behind the size is Mode 1's: its bit 7 is 0, and that mode is let in
abbrev pub in_mode1 : Told → ℕ → Bool
in_mode1 told c = told.mode1 && eqb (c / 128) 0

-- the fields that the size, the byte behind it and the next one have
abbrev pub fields_in : Told → ℕ → ℕ → ℕ → Fields
fields_in told n c d = cond (in_mode1 told c) (single told n c) (second (first n c) d)

-- the size and the control fields that bytes have, under what was told
abbrev pub fields_of : Told → List ℕ → Fields
fields_of told w = fields_in told (get_or w 0 0) (get_or w 1 0) (get_or w 2 0)

-- ---- the bit vector

-- how many bytes the bit vector takes: none unless sparse
abbrev pub vector_bytes : Fields → ℕ
vector_bytes f = bit f.cs * ((pairs f.n + 7) / 8)

-- the bits of bytes, first bit first
unfoldable pub bits : List ℕ → List ℕ
bits [] = []
bits (b ∷ bs) = digits 2 8 b ++ bits bs

-- the marks: from the bit vector if sparse, else all 1, or all 0 if coefficients have no bytes
abbrev pub marks_of : Fields → List ℕ → List ℕ
marks_of f vector = cond f.cs (take (pairs f.n) (bits vector)) (replicate (pairs f.n) (min 1 f.clen))

-- the part of a string that holds the bit vector
abbrev pub vector_in : Fields → List ℕ → List ℕ
vector_in f bytes = take (vector_bytes f) (drop (header_bytes f) bytes)

-- how many coefficients are sent
abbrev pub sent_in : Fields → List ℕ → ℕ
sent_in f bytes = sum (marks_of f (vector_in f bytes))

-- where the words begin
abbrev pub words_from : Fields → ℕ
words_from f = header_bytes f + vector_bytes f
