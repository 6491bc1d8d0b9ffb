-- The bytes of an array pack, and what an array pack is.
use Rattle.std.specs.Prelude.{ℕ, ◌≡◌, List, ◌++◌, length}
use Rattle.number.specs.Octets.{octets, numbers}
use Rattle.array.specs.Meaning.{Array, Lawful}

-- NDim, the sizes, E, processing 1, the array
abbrev pub bytes_of : Array → List ℕ
bytes_of a = octets (length a.sizes) ++ (numbers a.sizes ++ (octets a.element ++ (octets 1 ++ a.body)))

-- an array pack: the bytes of some lawful meaning
pub record ArrayPack (w : List ℕ) : Type 0 where
  pub meaning : Array
  pub lawful : Lawful meaning
  pub spelled : bytes_of meaning ≡ w
