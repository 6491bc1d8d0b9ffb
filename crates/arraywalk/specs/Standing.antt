-- For private functions alone: where the sizes of a pack stand in its bytes.
use Rattle.std.specs.Prelude.{ℕ, ◌≡◌, List, ◌++◌, drop}
use Rattle.number.specs.Octets.{numbers}

-- the sizes behind the first so many stand at a place, with something behind them
pub record SizesAt (bytes sizes : List ℕ) (count place : ℕ) : Type 0 where
  pub tail : List ℕ
  pub stand : drop place bytes ≡ numbers (drop count sizes) ++ tail
