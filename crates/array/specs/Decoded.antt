-- The meaning that bytes have.
use Rattle.std.specs.Prelude.{ℕ, ◌*◌, List, take}
use Rattle.number.specs.Front.{Front, front, Fronts, fronts}
use Rattle.array.specs.Meaning.{Array, product}

-- the first so many numbers behind NDim
abbrev pub sizes_in : List ℕ → ℕ → Fronts
sizes_in w count = fronts count (front 0 w).behind

-- E behind them
abbrev pub element_in : List ℕ → ℕ → Front
element_in w count = front 0 (sizes_in w count).behind

-- NDim sizes, E, and behind processing so many bytes
abbrev pub meaning_of : List ℕ → Array
meaning_of w =
    let count = (front 0 w).value in
    let sizes = (sizes_in w count).values in
    let element = element_in w count in
    record { sizes = sizes; element = element.value; body = take (product sizes * element.value) (front 0 element.behind).behind }
