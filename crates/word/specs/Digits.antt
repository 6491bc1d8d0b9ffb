-- Numbers and their digits in any base, first digit first: words in base 256, bits in base 2.
use Rattle.std.specs.Prelude.{ℕ, zero, suc, ◌+◌, ◌*◌, ◌/◌, ◌%◌, List, [], ◌∷◌, ◌++◌}

-- the last n digits of a value
unfoldable pub digits : ℕ → ℕ → ℕ → List ℕ
digits base zero value = []
digits base (suc n) value = digits base n (value / base) ++ (value % base ∷ [])

-- a value with further digits behind it
unfoldable pub value_on : ℕ → ℕ → List ℕ → ℕ
value_on base value [] = value
value_on base value (d ∷ ds) = value_on base (value * base + d) ds

-- the value of digits
abbrev pub value_of : ℕ → List ℕ → ℕ
value_of base ds = value_on base 0 ds
