-- The rules of what is given, in their order: the count of sizes, each size, E and the array. Assumes nothing.
use Prim.Native.Nat.{ℕ, ◌≤◌}
use mathlib.Core.Path.{◌≡◌, ◌∙◌}
use mathlib.Core.List.{List, ◌++◌}
use native.Mathlib.Omega.{arith}
use borrow.Author.Tests.{ne_eqb, le-ltb}
use lib.ListN.{length}
use Rattle.verdict.specs.declared.Reason.{Reason}
use Rattle.std.specs.Prelude.{Ok, Err}
use Rattle.verdict.specs.Judgement.{judgement}
use Rattle.verdict.proofs.Deciding.{judgement_on, judgement_off, kept_judgement}
use Rattle.array.specs.Meaning.{product, most}
use Rattle.arraywriter.specs.Given.{size_rows, body_rows, given_rows}
use Rattle.arraywriter.specs.Checking.{measured_of}
use Rattle.arraywriter.proofs.Measuring.{product_kept, broken_judged, sizes_most}

-- a product that was answered is that of the sizes, and keeps the limit
pub measured_product : (sizes : List ℕ) (elements : ℕ) → measured_of (size_rows 1 sizes) (product sizes) ≡ Ok elements → (elements ≡ product sizes) × ((1 ≤ elements) × (elements ≤ most))
measured_product sizes elements e =
    let k = product_kept (size_rows 1 sizes) (product sizes) elements e in
    let b = sizes_most 1 sizes (omega arith) (omega arith) k.0 in
    omega (arith, k.1)

module _ (sizes : List ℕ) (element : ℕ) (body : List ℕ) where
  module _ (some : 1 ≤ length sizes) (few : length sizes ≤ 8) where
    counted : judgement (given_rows sizes element body) ≡ judgement (size_rows 1 sizes ++ body_rows sizes element body)
    counted = rw (ne_eqb (length sizes) 0 (λ z. omega arith), le-ltb 8 (length sizes) few)

    pub given_product : (elements : ℕ) → measured_of (size_rows 1 sizes) (product sizes) ≡ Ok elements → judgement (given_rows sizes element body) ≡ judgement (body_rows sizes element body)
    given_product elements e =
        let k = product_kept (size_rows 1 sizes) (product sizes) elements e in
        counted ∙ judgement_on (size_rows 1 sizes) (body_rows sizes element body) (kept_judgement (size_rows 1 sizes) k.0)

    pub given_broken : (reason : Reason) → measured_of (size_rows 1 sizes) (product sizes) ≡ Err reason → judgement (given_rows sizes element body) ≡ Err reason
    given_broken reason e = counted ∙ judgement_off (size_rows 1 sizes) (body_rows sizes element body) reason (broken_judged (size_rows 1 sizes) (product sizes) reason e)
