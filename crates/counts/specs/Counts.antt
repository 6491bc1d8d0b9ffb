-- Counts of the sizes that a pack may have, up to 64, and none of any other.
use Rattle.std.specs.Prelude.{ℕ, cond, ltb}
use Rattle.matrix.specs.declared.Fields.{Fields}
use Rattle.matrix.specs.Meaning.{pairs}
use Rattle.matrix.specs.Header.{vector_bytes}

-- a count that goes with a size
abbrev pub up_to64 : ℕ → ℕ → ℕ
up_to64 n count = cond (ltb 64 n) 0 count

-- M
abbrev pub pairs_up_to : ℕ → ℕ
pairs_up_to n = up_to64 n (pairs n)

-- the bytes of the bit vector
abbrev pub vector_up_to : Fields → ℕ
vector_up_to f = up_to64 f.n (vector_bytes f)
