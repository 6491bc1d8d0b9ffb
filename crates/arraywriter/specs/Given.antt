-- What the writer of array packs is given: the meaning that it has, and the rules in document 01's order.
use Rattle.std.specs.Prelude.{ℕ, ◌*◌, not, List, [], ◌∷◌, ◌++◌, length, eqb, ltb}
use Rattle.verdict.specs.declared.Reason.TheVariants.{Zero, TooLarge, Disagree}
use Rattle.verdict.specs.Rows.{Row}
use Rattle.verdict.specs.Writing.{room_rows}
use Rattle.array.specs.Meaning.{Array, product, most}
use Rattle.array.specs.Spelling.{bytes_of}

abbrev pub meaning_given : List ℕ → ℕ → List ℕ → Array
meaning_given sizes element body = record { sizes = sizes; element = element; body = body }

-- each size in turn, behind sizes of this product: 1 for 0, 2 where the product passes the limit
unfoldable pub size_rows : ℕ → List ℕ → List Row
size_rows before [] = []
size_rows before (size ∷ sizes) =
    record { broken = eqb size 0; reason = Zero } ∷ record { broken = ltb most (before * size); reason = TooLarge } ∷ size_rows (before * size) sizes

-- the count of sizes as NDim
abbrev pub count_rows : List ℕ → List Row
count_rows sizes = record { broken = eqb (length sizes) 0; reason = Zero } ∷ record { broken = ltb 8 (length sizes); reason = TooLarge } ∷ []

-- E, and 14 for another count of bytes
abbrev pub body_rows : List ℕ → ℕ → List ℕ → List Row
body_rows sizes element body =
    record { broken = ltb most (product sizes * element); reason = TooLarge }
    ∷ record { broken = not (eqb (length body) (product sizes * element)); reason = Disagree }
    ∷ []

-- the rules of what is given, whatever is lent
abbrev pub given_rows : List ℕ → ℕ → List ℕ → List Row
given_rows sizes element body = count_rows sizes ++ (size_rows 1 sizes ++ body_rows sizes element body)

-- the rules of the writer: of what is given, and last of the buffer that is lent
abbrev pub writer_rows : List ℕ → ℕ → List ℕ → List ℕ → List Row
writer_rows sizes element body out = given_rows sizes element body ++ room_rows (length (bytes_of (meaning_given sizes element body))) (length out)
