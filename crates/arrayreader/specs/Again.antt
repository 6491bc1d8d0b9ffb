-- For private functions alone: the sizes of a whole pack, as they are drawn again.
use Rattle.std.specs.Prelude.{ℕ, ◌<◌, ◌≤◌, ◌≡◌, List, length, get_or}
use Rattle.array.specs.Meaning.{Lawful}
use Rattle.array.specs.Decoded.{meaning_of}
use Rattle.arraywalk.specs.Standing.{SizesAt}

-- the first so many sizes of a lawful meaning end at a place, and the others stand there
pub record SizesTo (bytes : List ℕ) (dims count place : ℕ) : Type 0 where
  pub lawful : Lawful (meaning_of bytes)
  pub counted : dims ≡ length (meaning_of bytes).sizes
  pub there : SizesAt bytes (meaning_of bytes).sizes count place

-- the first so many of a list stand among eight, and 0 past them
pub record Put (l : List ℕ) (count : ℕ) (sizes : List ℕ) : Type 0 where
  pub eight : length sizes ≡ 8
  pub there : (i : ℕ) → i < count → get_or sizes i 0 ≡ get_or l i 0
  pub past : (i : ℕ) → count ≤ i → i < 8 → get_or sizes i 0 ≡ 0
