-- The count of sizes, the sizes, then E and the array, in the order of the rules.
use Rattle.std.proofs.Common.{sym, ap, ◌∙◌, ◌≤◌, length, arith}
use borrow.Author.Tests.{eqb-false}
use Rattle.std.specs.Prelude.{Err}
use Rattle.std.proofs.lemmas.Result.{err_from_is_err_and}
use Rattle.verdict.specs.declared.Reason.{Reason}
use Rattle.arraywriter.proofs.Measuring.{not_nought}
use Rattle.arraywriter.proofs.Checking.{measured_product, given_product, given_broken}
use Rattle.arraywriter.proofs.check.check.Goals as goal

pub check_body-requires : goal.check_body-requires
check_body-requires c = measured_product c.args.sizes.now c.in_ok-elements.elements (sym c.in_ok-elements.ensures)

pub returns : goal.returns
returns c =
    let a = c.args in
    let some : 1 ≤ length a.sizes.now = not_nought (length a.sizes.now) (eqb-false (length a.sizes.now) 0 (sym c.if-is_empty.ensures)) in
    c.check_body.ensures ∙ sym (given_product a.sizes.now a.element a.array.now some (omega arith) c.in_ok-elements.elements (sym c.in_ok-elements.ensures))

pub returns-in_err-elements : goal.returns-in_err-elements
returns-in_err-elements c =
    let a = c.args in
    let some : 1 ≤ length a.sizes.now = not_nought (length a.sizes.now) (eqb-false (length a.sizes.now) 0 (sym c.if-is_empty.ensures)) in
    let passed = err_from_is_err_and c.from_residual.result c.from_residual.ensures.1 in
    let e = given_broken a.sizes.now a.element a.array.now some (omega arith) c.in_err-elements.field-0.0 (sym c.in_err-elements.ensures) in
    rw e (passed.1 ∙ ap (λ (reason : Reason). Err reason) passed.2)
