-- The table of documents 01 and 02 for matrix packs: the rules of each field, in their order within one byte, with the reason where one is broken.
use Rattle.std.specs.Prelude.{ℕ, ◌-◌, ◌*◌, ◌/◌, ◌%◌, ◌^◌, Bool, true, not, ◌&&◌, ◌||◌, cond, List, [], ◌∷◌, ◌++◌, length, take, get_or, eqb, ltb}
use Rattle.verdict.specs.declared.Reason.{Reason}
use Rattle.verdict.specs.declared.Reason.TheVariants.{Zero, TooLarge, PaddedNumber, Mode, Reserved, ValueLength, FormatAlone, Sparse, SizeOne, Empty, VectorEnd, ValueRange}
use Rattle.verdict.specs.Rows.{Row, Blamed}
use Rattle.rule.specs.Rules.{allowed}
use Rattle.matrix.specs.declared.Fields.{Fields}
use Rattle.matrix.specs.declared.Told.{Told}
use Rattle.matrix.specs.Meaning.{pairs, sum, alone}
use Rattle.matrix.specs.Header.{first, second, single, in_mode1, vector_bytes, bits}

-- the size
abbrev pub size_rows : ℕ → List Row
size_rows b =
    record { broken = eqb b 0; reason = Zero }
    ∷ record { broken = eqb b 0x80; reason = PaddedNumber }
    ∷ record { broken = ltb 64 b; reason = TooLarge }
    ∷ []

-- each rule of the control fields with its reason: 6 for Clen and for Slen, 16 for Cf and for Sf, 7, 8, 9
abbrev pub coefficient_length_row : Fields → Row
coefficient_length_row f = record { broken = not (allowed f.cf f.clen); reason = ValueLength }

abbrev pub deviation_length_row : Fields → Row
deviation_length_row f = record { broken = not (allowed f.sf f.slen); reason = ValueLength }

abbrev pub coefficient_flag_row : Fields → Row
coefficient_flag_row f = record { broken = alone f.mode1 f.cf f.clen; reason = FormatAlone }

abbrev pub deviation_flag_row : Fields → Row
deviation_flag_row f = record { broken = alone f.mode1 f.sf f.slen; reason = FormatAlone }

abbrev pub sparse_row : Fields → Row
sparse_row f = record { broken = f.cs && eqb f.clen 0; reason = Sparse }

abbrev pub size_one_row : Fields → Row
size_one_row f = record { broken = eqb f.n 1 && ltb 0 f.clen; reason = SizeOne }

abbrev pub empty_row : Fields → Row
empty_row f = record { broken = eqb f.slen 0 && eqb f.clen 0; reason = Empty }

-- Mode 1's control byte: 6, 7, 8, 9
abbrev pub single_rows : Fields → List Row
single_rows f = coefficient_length_row f ∷ deviation_length_row f ∷ sparse_row f ∷ size_one_row f ∷ empty_row f ∷ []

-- what control byte 1 says of the coefficients: 6, 16, 7, 8
abbrev pub coefficient_rows : Fields → List Row
coefficient_rows f = coefficient_length_row f ∷ coefficient_flag_row f ∷ sparse_row f ∷ size_one_row f ∷ []

-- what control byte 2 says of the deviations: 6, 16, 9
abbrev pub deviation_rows : Fields → List Row
deviation_rows f = deviation_length_row f ∷ deviation_flag_row f ∷ empty_row f ∷ []

-- control byte 1: 4 where Mode 1 is not let in, 5, then of the coefficients
abbrev pub control1_rows : Fields → ℕ → List Row
control1_rows f b = record { broken = eqb (b / 128) 0; reason = Mode } ∷ record { broken = eqb (b / 64 % 2) 1; reason = Reserved } ∷ coefficient_rows f

-- control byte 2: 4, 5, then of the deviations
abbrev pub control2_rows : Fields → ℕ → List Row
control2_rows f b = record { broken = eqb (b / 128) 1; reason = Mode } ∷ record { broken = not (eqb (b / 32 % 4) 0); reason = Reserved } ∷ deviation_rows f

-- Mode 1 has three bits for a length: 6
abbrev pub room_row : Fields → ℕ → Row
room_row f length = record { broken = f.mode1 && ltb 7 length; reason = ValueLength }

-- fields that are given in the formats that they are judged by: those of Mode 1 are mapped coefficients, and deviations as stated
abbrev pub formatted : Bool → Fields → Fields
formatted mapped f = record { n = f.n; cs = f.cs; cf = f.mode1 || f.cf; clen = f.clen; sf = cond f.mode1 mapped f.sf; slen = f.slen; mode1 = f.mode1 }

-- fields that are given and not read: 1 or 2 for the size, then of the coefficients and of the deviations
abbrev pub field_rows : Bool → Fields → List Row
field_rows mapped f =
    record { broken = eqb f.n 0; reason = Zero }
    ∷ record { broken = ltb 64 f.n; reason = TooLarge }
    ∷ ((room_row f f.clen ∷ coefficient_rows (formatted mapped f)) ++ (room_row f f.slen ∷ deviation_rows (formatted mapped f)))

-- the last vector byte: 10, 9. `sent` is how many of the M bits are 1
abbrev pub vector_rows : Fields → ℕ → ℕ → List Row
vector_rows f sent b =
    record { broken = not (eqb (b % 2 ^ (vector_bytes f * 8 - pairs f.n)) 0); reason = VectorEnd }
    ∷ record { broken = eqb f.slen 0 && eqb sent 0; reason = Empty }
    ∷ []

-- a byte of a word: 11
abbrev pub word_rows : Bool → List Row
word_rows broken = record { broken = broken; reason = ValueRange } ∷ []

-- the rules for the first byte behind the header, or a later one: of the bit vector at its last byte, of words behind it
abbrev pub value_rows : Fields → List ℕ → List Row
value_rows f values =
    cond (ltb (length values) (vector_bytes f)) []
    (cond (eqb (length values) (vector_bytes f)) (vector_rows f (sum (take (pairs f.n) (bits values))) (get_or values (vector_bytes f - 1) 0)) (word_rows true))

-- the rules for Mode 1's control byte, or for the last of the bytes behind it
abbrev pub single_rows_of : Fields → List ℕ → List Row
single_rows_of f [] = single_rows f
single_rows_of f (b ∷ values) = value_rows f (b ∷ values)

-- the rules for Mode 2's control byte 1, or for the last of the bytes behind it
abbrev pub double_rows_of : Fields → ℕ → List ℕ → List Row
double_rows_of f c [] = control1_rows f c
double_rows_of f c (d ∷ []) = control2_rows (second f d) d
double_rows_of f c (d ∷ b ∷ values) = value_rows (second f d) (b ∷ values)

-- the rules for the last of some bytes, by the field that it falls in
abbrev pub rows_of : Told → List ℕ → List Row
rows_of told [] = []
rows_of told (n ∷ []) = size_rows n
rows_of told (n ∷ c ∷ w) = cond (in_mode1 told c) (single_rows_of (single told n c) w) (double_rows_of (first n c) c w)

-- the table: the reason why the last of some bytes is refused, under what was told
abbrev pub Why : Told → List ℕ → Reason → Type 0
Why told w reason = Blamed (rows_of told w) reason
