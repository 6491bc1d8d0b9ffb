-- The number that stands at the front of bytes.
use Rattle.std.specs.Prelude.{ℕ, zero, suc, ◌+◌, ◌-◌, ◌*◌, cond, List, [], ◌∷◌, ltb}

-- its value, and what stands behind it
pub record Front : Type 0 where
  pub value : ℕ
  pub behind : List ℕ

-- a number begun with a value goes on at the front of bytes: seven bits an octet, up to the first whose top bit is 0
unfoldable pub front : ℕ → List ℕ → Front
front value [] = record { value = value; behind = [] }
front value (octet ∷ w) =
    let longer = front (value * 128 + (octet - 128)) w in
    cond (ltb octet 128) (record { value = value * 128 + octet; behind = w }) longer

-- so many numbers, one after the other
pub record Fronts : Type 0 where
  pub values : List ℕ
  pub behind : List ℕ

unfoldable pub fronts : ℕ → List ℕ → Fronts
fronts zero w = record { values = []; behind = w }
fronts (suc n) w =
    let first = front 0 w in
    let others = fronts n first.behind in
    record { values = first.value ∷ others.values; behind = others.behind }
