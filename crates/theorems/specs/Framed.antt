-- What a frame is, from its parts alone: a key, a BER length in its shortest form, and a pack of that many bytes.
use Rattle.std.specs.Prelude.{ℕ, ◌≡◌, false, List, [], ◌++◌, length}
use Rattle.matrix.specs.Meaning.{stating}
use Rattle.matrix.specs.Pack.{MatrixPack}
use Rattle.array.specs.Spelling.{ArrayPack}
use Rattle.outcome.specs.declared.Kind.{Kind}
use Rattle.outcome.specs.declared.Kind.TheVariants.{Matrix, Array, Unknown}
use Rattle.berlength.specs.Lengths.{shortest}
use Rattle.frame.specs.Frame.{matrix_key, array_key}

-- the key of a kind; no key names the unknown
abbrev pub key_of : Kind → List ℕ
key_of Matrix = matrix_key
key_of Array = array_key
key_of Unknown = []

-- the packs of a kind, in either mode, Mode 1's deviations being IEEE; the unknown has none
abbrev pub PackOf : Kind → List ℕ → Type 0
PackOf Matrix pack = MatrixPack (stating false) pack
PackOf Array pack = ArrayPack pack
PackOf Unknown pack = ⊥

-- a frame of a kind: its key, the length of its pack in the shortest form, its pack
pub record Frame (kind : Kind) (w : List ℕ) : Type 0 where
  pub pack : List ℕ
  pub whole : PackOf kind pack
  pub spelled : w ≡ key_of kind ++ (shortest (length pack) ++ pack)

-- one whose pack has so many bytes
pub record FrameOf (kind : Kind) (n : ℕ) (w : List ℕ) : Type 0 where
  pub frame : Frame kind w
  pub count : length frame.pack ≡ n
