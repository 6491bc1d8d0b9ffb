-- A matrix pack under what was told: the bytes of some lawful meaning, in a mode that is let in.
use Rattle.std.specs.Prelude.{◌≡◌, List, ℕ}
use Rattle.matrix.specs.declared.Told.{Told}
use Rattle.matrix.specs.Meaning.{Matrix, Lawful, Fits}
use Rattle.matrix.specs.Spelling.{bytes_of}

pub record MatrixPack (told : Told) (w : List ℕ) : Type 0 where
  pub meaning : Matrix
  pub lawful : Lawful meaning
  pub fits : Fits told meaning.fields
  pub spelled : bytes_of meaning ≡ w
