-- Document 01's table for array packs: the rules of the last of some bytes, by the number in which it falls, with the reason where one is broken.
use Rattle.std.specs.Prelude.{ℕ, ◌+◌, ◌-◌, ◌*◌, ◌/◌, suc, Bool, true, false, ◌&&◌, cond, List, [], ◌∷◌, ◌++◌, eqb, ltb, length, take, drop}
use Rattle.verdict.specs.declared.Reason.{Reason}
use Rattle.verdict.specs.declared.Reason.TheVariants.{Zero, TooLarge, PaddedNumber, Processing}
use Rattle.verdict.specs.Rows.{Row, Blamed}
use Rattle.array.specs.Meaning.{product, most}

-- the numbers of a pack: NDim; a size with so many sizes behind it and this product of those before it; E, and processing, with the
-- count of elements, or of bytes, before them
pub data Field : Type 0 where
  dims : Field
  size : ℕ → ℕ → Field
  element : ℕ → Field
  processing : ℕ → Field

-- the greatest value that keeps the limits, with all later sizes 1 and E 0
abbrev pub limit : Field → ℕ
limit dims = 8
limit (size more product) = most / product
limit (element product) = most / product
limit (processing total) = 1

-- whether a number must be 1 or more: each but E
abbrev pub positive : Field → Bool
positive dims = true
positive (size more product) = true
positive (element product) = false
positive (processing total) = true

-- above its limit a number is refused 2, processing 12
abbrev pub over : Field → Reason
over dims = TooLarge
over (size more product) = TooLarge
over (element product) = TooLarge
over (processing total) = Processing

-- the smallest number of octets with this value and one octet more: below 0x80 it is the last, behind any other the smallest ending is one octet 0x00
abbrev pub smallest : ℕ → ℕ → ℕ
smallest value octet = cond (ltb octet 0x80) (value * 128 + octet) ((value * 128 + (octet - 0x80)) * 128)

-- the rules of an octet, behind octets of its number with this value, 0 where there are none: 1 for a number 0 that must be 1 or more,
-- 3 for a first octet 0x80, 2 or 12 where even the smallest ending breaks the limit
abbrev pub octet_rows : Field → ℕ → ℕ → List Row
octet_rows field value octet =
    record { broken = positive field && (eqb value 0 && eqb octet 0); reason = Zero }
    ∷ record { broken = eqb value 0 && eqb octet 0x80; reason = PaddedNumber }
    ∷ record { broken = ltb (limit field) (smallest value octet); reason = over field }
    ∷ []

-- some bytes as octets: the numbers that are whole, and the value of the octets begun behind them
pub record OctetsRead : Type 0 where
  pub numbers : List ℕ
  pub value : ℕ

-- one octet more: below 0x80 it ends its number
abbrev pub with_octet : OctetsRead → ℕ → OctetsRead
with_octet begun octet =
    cond (ltb octet 0x80) (record { numbers = begun.numbers ++ ((begun.value * 128 + octet) ∷ []); value = 0 })
    (record { numbers = begun.numbers; value = begun.value * 128 + (octet - 0x80) })

-- what a byte falls in: a number of a field, or the array
pub data Part : Type 0 where
  field : Field → Part
  array : Part

-- behind sizes of this product and these numbers: E, then processing, then the array
abbrev pub part_behind_sizes : ℕ → List ℕ → Part
part_behind_sizes product [] = field (element product)
part_behind_sizes product (e ∷ []) = field (processing (product * e))
part_behind_sizes product (e ∷ one ∷ numbers) = array

-- behind these numbers: NDim, then as many sizes as it says, then what stands behind them
abbrev pub part_behind : List ℕ → Part
part_behind [] = field dims
part_behind (count ∷ numbers) =
    cond (ltb (length numbers) count) (field (size (count - suc (length numbers)) (product numbers)))
    (part_behind_sizes (product (take count numbers)) (drop count numbers))

-- the rules of a byte in its part: the array has none
abbrev pub rows_in : Part → ℕ → ℕ → List Row
rows_in (field f) value octet = octet_rows f value octet
rows_in array value octet = []

-- the rules for the last of some bytes, behind those that have begun so
unfoldable pub rows_behind : OctetsRead → List ℕ → List Row
rows_behind begun [] = []
rows_behind begun (octet ∷ []) = rows_in (part_behind begun.numbers) begun.value octet
rows_behind begun (octet ∷ b ∷ w) = rows_behind (with_octet begun octet) (b ∷ w)

abbrev pub rows_of : List ℕ → List Row
rows_of w = rows_behind (record { numbers = []; value = 0 }) w

-- the table: the reason why the last of some bytes is refused
abbrev pub Why : List ℕ → Reason → Type 0
Why w reason = Blamed (rows_of w) reason
