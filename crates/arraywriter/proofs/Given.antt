-- What is given keeps the writer's rules exactly where its meaning is lawful. Assumes nothing.
use Prim.Native.Nat.{ℕ, ◌*◌}
use mathlib.Core.Path.{refl}
use mathlib.Core.List.{List, ◌++◌}
use native.Mathlib.Omega.{arith}
use borrow.Author.Tests.{eq-eqb, ne_eqb, le-ltb, eqb-true, eqb-false, ltb-false, not-false}
use lib.Dec.{eqb}
use lib.ListN.{length}
use Rattle.verdict.specs.Says.{Bytes}
use Rattle.verdict.proofs.Judging.{Kept}
use Rattle.verdict.proofs.Deciding.{kept_both, both_kept}
use Rattle.array.specs.Meaning.{product, most, Lawful}
use Rattle.arraywriter.specs.Given.{meaning_given, size_rows, count_rows, body_rows, given_rows}
use Rattle.arraywriter.proofs.Measuring.{not_nought, sizes_least, sizes_most, sizes_kept}

module _ (sizes : List ℕ) (element : ℕ) (body : List ℕ) where
  pub given_lawful : Kept (given_rows sizes element body) → Bytes body → Lawful (meaning_given sizes element body)
  given_lawful k b =
      let k₁ = both_kept (count_rows sizes) (size_rows 1 sizes ++ body_rows sizes element body) k in
      let k₂ = both_kept (size_rows 1 sizes) (body_rows sizes element body) k₁.1 in
      record {
        some_sizes = not_nought (length sizes) (eqb-false (length sizes) 0 k₁.0.0);
        few_sizes = ltb-false 8 (length sizes) k₁.0.1.0;
        size_least = sizes_least 1 sizes k₂.0;
        elements_most = omega (arith, sizes_most 1 sizes (omega arith) (omega arith) k₂.0);
        bytes_most = ltb-false most (product sizes * element) k₂.1.0;
        body_count = eqb-true (length body) (product sizes * element) (not-false (eqb (length body) (product sizes * element)) k₂.1.1.0);
        body_bytes = b;
      }

  pub lawful_given : Lawful (meaning_given sizes element body) → Kept (given_rows sizes element body)
  lawful_given g =
      let some = g.some_sizes in
      kept_both (count_rows sizes) (size_rows 1 sizes ++ body_rows sizes element body) (ne_eqb (length sizes) 0 (λ z. omega arith), (le-ltb 8 (length sizes) g.few_sizes, tt))
      (kept_both (size_rows 1 sizes) (body_rows sizes element body) (sizes_kept 1 sizes g.size_least (omega (arith, g.elements_most)))
      (le-ltb most (product sizes * element) g.bytes_most, (rw (eq-eqb (length body) (product sizes * element) g.body_count) refl, tt)))
