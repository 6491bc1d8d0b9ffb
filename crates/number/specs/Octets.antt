-- The octets of a value, in the shortest form.
use Rattle.std.specs.Prelude.{ℕ, zero, suc, ◌+◌, ◌/◌, ◌%◌, cond, List, [], ◌∷◌, ◌++◌, eqb}

-- the octets of a value that others follow, at most so many: none for 0
unfoldable pub high_in : ℕ → ℕ → List ℕ
high_in zero value = []
high_in (suc most) value = let high = high_in most (value / 128) in cond (eqb value 0) [] (high ++ ((128 + value % 128) ∷ []))

-- a value has fewer octets than ones, so that it bounds their count
unfoldable pub high : ℕ → List ℕ
high value = high_in value value

unfoldable pub octets : ℕ → List ℕ
octets value = high (value / 128) ++ (value % 128 ∷ [])

-- values in their shortest form, one after the other
unfoldable pub numbers : List ℕ → List ℕ
numbers [] = []
numbers (value ∷ values) = octets value ++ numbers values
