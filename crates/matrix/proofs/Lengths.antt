-- How long a matrix pack can be. Assumes nothing.
use Prim.Native.Nat.{ℕ, suc, ◌+◌, ◌*◌, ◌/◌, ◌≤◌}
use mathlib.Core.Path.{subst}
use mathlib.Core.Bool.{Bool, true, false}
use mathlib.Core.List.{List, [], ◌∷◌}
use native.Mathlib.Omega.{arith}
use lib.ListN.{length, get_or}
use Rattle.matrix.specs.declared.Told.{Told}
use Rattle.matrix.specs.Meaning.{pairs, sum}
use Rattle.matrix.specs.Spelling.{bytes_of}
use Rattle.matrix.specs.Header.{bit}
use Rattle.matrix.specs.Pack.{MatrixPack}
use Rattle.matrix.proofs.Pairs.{pairs_most}
use Rattle.matrix.proofs.Counts.{deviations_most, coefficients_most}
use Rattle.matrix.proofs.Header.{header_most}
use Rattle.matrix.proofs.Decoding.{pack_length}

-- no more marks are 1 than there are marks
marks_most : (marks : List ℕ) → ((i : ℕ) → get_or marks i 0 ≤ 1) → sum marks ≤ length marks
unfolding sum
marks_most [] h = omega arith
marks_most (mark ∷ marks) h = omega (arith, h 0, marks_most marks (λ i. h (suc i)))

vector_most : (sparse : Bool) (count : ℕ) → count ≤ 2016 → bit sparse * ((count + 7) / 8) ≤ 252
vector_most true count h = omega arith
vector_most false count h = omega arith

-- the size and control bytes, a whole bit vector, 64 deviations and 2,016 coefficients of 8 bytes
pub matrix_short : (told : Told) (w : List ℕ) → MatrixPack told w → length w ≤ 16895
matrix_short told w p =
    let m = p.meaning in
    let f = m.fields in
    let g = p.lawful in
    let most = pairs_most f.n g.fields.first.size_most in
    let sent : sum m.marks ≤ 2016 = omega (arith, marks_most m.marks g.values.mark_rule, g.values.mark_count, most) in
    let long : length (bytes_of m) ≤ 16895 =
    omega (arith, pack_length m, header_most f, vector_most f.cs (pairs f.n) most, deviations_most f g.fields, coefficients_most f (sum m.marks) g.fields.first sent) in
    subst (λ (l : List ℕ). length l ≤ 16895) p.spelled long
