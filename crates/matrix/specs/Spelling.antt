-- The bytes of a meaning, and the meaning that bytes have.
use Rattle.std.specs.Prelude.{ℕ, zero, suc, ◌*◌, cond, List, [], ◌∷◌, ◌++◌, take, drop, replicate, get_or, eqb}
use Rattle.word.specs.Digits.{digits, value_of}
use Rattle.matrix.specs.declared.Fields.{Fields}
use Rattle.matrix.specs.declared.Told.{Told}
use Rattle.matrix.specs.Meaning.{Matrix, nought}
use Rattle.matrix.specs.Header.{header_of, header_bytes, fields_of, vector_bytes, marks_of}

-- so many bytes of bits, eight a byte from the top bit, 0 where there are no more
unfoldable pub packed : ℕ → List ℕ → List ℕ
packed zero marks = []
packed (suc k) marks = value_of 2 (take 8 (marks ++ replicate 8 0)) ∷ packed k (drop 8 marks)

-- words of a length, big-endian, those whose mark is 1
unfoldable pub spelled : ℕ → List ℕ → List ℕ → List ℕ
spelled size [] words = []
spelled size (mark ∷ marks) words = digits 256 (mark * size) (get_or words 0 0) ++ spelled size marks (drop 1 words)

-- the bytes of a meaning: the header, the bit vector, the deviations, the coefficients that are sent
abbrev pub bytes_of : Matrix → List ℕ
bytes_of m =
    header_of m.fields
    ++ (packed (vector_bytes m.fields) m.marks
    ++ (spelled m.fields.slen (replicate m.fields.n 1) m.deviations ++ spelled m.fields.clen m.marks m.coefficients))

-- the words that bytes spell, those whose mark is 0 being this nought
unfoldable pub read : ℕ → ℕ → List ℕ → List ℕ → List ℕ
read size none [] bytes = []
read size none (mark ∷ marks) bytes = cond (eqb mark 0) none (value_of 256 (take size bytes)) ∷ read size none marks (drop (mark * size) bytes)

-- the meaning of fields and the bytes behind their header
abbrev pub meaning_behind : Fields → List ℕ → Matrix
meaning_behind f w =
    let values = drop (vector_bytes f) w in
    let marks = marks_of f (take (vector_bytes f) w) in
    record {
      fields = f;
      deviations = read f.slen 0 (replicate f.n 1) values;
      marks = marks;
      coefficients = read f.clen (nought f) marks (drop (f.n * f.slen) values);
    }

-- the meaning of bytes that begin with the header of these fields
abbrev pub meaning_in : Fields → List ℕ → Matrix
meaning_in f bytes = meaning_behind f (drop (header_bytes f) bytes)

-- the meaning that bytes have, under what was told
abbrev pub meaning_of : Told → List ℕ → Matrix
meaning_of told bytes = meaning_in (fields_of told bytes) bytes
