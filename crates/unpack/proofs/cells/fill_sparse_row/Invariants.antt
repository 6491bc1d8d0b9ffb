-- The pairs of the row up to `column` are filled in.
use Rattle.std.proofs.Common.{◌≡◌, ℕ, ◌+◌, ◌*◌, List, take}
use Rattle.matrix.specs.Meaning.{Matrix, sum}
use Rattle.matrix.specs.Order.{pair_at}
use Rattle.unpack.specs.Found.{meaning_found}
use Rattle.unpack.specs.Cells.{Grid, of_row}
use Rattle.unpack.proofs.cells.fill_sparse_row.Given as goal

-- the pairs of the row before the column are filled in, and the next coefficient is as many bytes on as they have
pub record UpTo (m : Matrix) (row n length : ℕ) (words₀ marks₀ : List ℕ) (place₀ pair₀ : ℕ) (words marks : List ℕ) (place pair column : ℕ) : Type 0 where
  pub pair_is : pair ≡ pair_at n row column
  pub moved : place + sum (take pair₀ m.marks) * length ≡ place₀ + sum (take pair m.marks) * length
  pub filled : Grid m (of_row row column) words₀ marks₀ words marks

abbrev pub invariant-loop-column : goal.invariant-loop-column
invariant-loop-column l =
    UpTo (meaning_found l.pack.bytes.now l.pack.found) l.row l.n l.length l.initial.words l.initial.marks l.initial.place l.initial.pair l.words l.marks l.place l.pair l.column
