-- Counts of a size that a pack may have. Assumes nothing.
use Prim.Native.Nat.{ℕ, ◌≤◌}
use mathlib.Core.Path.{◌≡◌, ◌∙◌}
use native.Mathlib.Omega.{arith}
use borrow.Author.Tests.{le-ltb, ltb-false}
use lib.Dec.{ltb}
use Rattle.verdict.proofs.Cases.{either}
use Rattle.matrix.specs.declared.Fields.{Fields}
use Rattle.matrix.specs.Meaning.{pairs}
use Rattle.matrix.specs.Header.{vector_bytes}
use Rattle.matrix.proofs.Pairs.{pairs_most}
use Rattle.counts.specs.Counts.{up_to64, pairs_up_to, vector_up_to}

counted : (n count : ℕ) → n ≤ 64 → up_to64 n count ≡ count
counted n count h = rw (le-ltb 64 n h)

pub pairs_counted : (n r : ℕ) → n ≤ 64 → r ≡ pairs_up_to n → r ≡ pairs n
pairs_counted n r h e = e ∙ counted n (pairs n) h

pub vector_counted : (f : Fields) (r : ℕ) → f.n ≤ 64 → r ≡ vector_up_to f → r ≡ vector_bytes f
vector_counted f r h e = e ∙ counted f.n (vector_bytes f) h

pub pairs_few : (n r : ℕ) → r ≡ pairs_up_to n → r ≤ 2016
pairs_few n r e =
    either (ltb 64 n) (λ t. let none : r ≡ 0 = e ∙ rw t in omega arith)
    (λ t. let h = ltb-false 64 n t in omega (arith, pairs_counted n r h e, pairs_most n h))
