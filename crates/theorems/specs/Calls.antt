-- One call of `feed` after the other: where they lead, what they took and what they wrote.
use Rattle.std.specs.Prelude.{ℕ, ◌≤◌, ◌≡◌, List, [], ◌++◌, length, take}
use Rattle.lines.specs.Taking.{longest_line}
use Rattle.report.specs.Feeding.{Came, came_of}

-- where calls from the start lead, in a line buffer that held anything at first: the input that they took, and what they wrote
pub data Calls : ℕ → ℕ → List ℕ → List ℕ → List ℕ → Type 0 where
  none : {buffer : List ℕ} → longest_line ≤ length buffer → Calls 1 0 buffer [] []
  more : {number held : ℕ} {buffer input output : List ℕ} → Calls number held buffer input output → (chunk : List ℕ) (left : ℕ) (came : Came) → came ≡ came_of number held buffer left chunk
      → Calls came.number came.held came.buffer (input ++ take came.taken chunk) (output ++ came.text)
