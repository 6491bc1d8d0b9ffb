-- What an array pack means, and the rules that a lawful meaning keeps.
use Rattle.std.specs.Prelude.{ℕ, ◌*◌, ◌≤◌, ◌<◌, ◌≡◌, List, [], ◌∷◌, length, get_or}
use Rattle.verdict.specs.Says.{Bytes}

-- the sizes of the dimensions, the element size E, and the bytes of the array
pub record Array : Type 0 where
  pub sizes : List ℕ
  pub element : ℕ
  pub body : List ℕ

-- how many elements there are
unfoldable pub product : List ℕ → ℕ
product [] = 1
product (size ∷ sizes) = size * product sizes

-- the greatest product of sizes, and of sizes and E
abbrev pub most : ℕ
most = 32768

pub record Lawful (a : Array) : Type 0 where
  pub some_sizes : 1 ≤ length a.sizes
  pub few_sizes : length a.sizes ≤ 8
  pub size_least : (i : ℕ) → i < length a.sizes → 1 ≤ get_or a.sizes i 0
  pub elements_most : product a.sizes ≤ most
  pub bytes_most : product a.sizes * a.element ≤ most
  pub body_count : length a.body ≡ product a.sizes * a.element
  pub body_bytes : Bytes a.body
