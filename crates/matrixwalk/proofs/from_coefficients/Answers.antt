-- The words behind the deviations end the pack.
use Rattle.std.proofs.Common.{ap, arith}
use Rattle.std.proofs.lemmas.Result.{err_from_is_err_and}
use Rattle.rule.specs.declared.rules.Rule.{Rule}
use Rattle.rule.proofs.Certain.{coefficient_sound}
use Rattle.matrixwalk.proofs.Walking.{coefficients_ruled, chosen_coefficients, coefficients_passed, coefficients_end}
use Rattle.matrixwalk.proofs.from_coefficients.Goals as goal

pub unwrap-requires : goal.unwrap-requires
unwrap-requires c = rw (c.coefficient_rule.ensures, coefficients_ruled c.args.begun.fields c.requires.begun.lawful)

pub invariant_of-ruled : goal.invariant_of-ruled
invariant_of-ruled c =
    let f = c.args.begun.fields in
    let lawful = c.requires.begun.lawful in
    let is = chosen_coefficients f lawful c.coefficient_rule.result c.unwrap.result c.unwrap.ensures c.coefficient_rule.ensures in
    record { allowed = lawful.first.coefficient_length; formed = is; short = omega (arith, ap (λ (r : Rule). r.length) is, (coefficient_sound f.cf f.clen lawful.first.coefficient_length).short) }

pub returns : goal.returns
returns c =
    let b = c.args.begun in
    let is = chosen_coefficients b.fields c.requires.begun.lawful c.coefficient_rule.result c.unwrap.result c.unwrap.ensures c.coefficient_rule.ensures in
    coefficients_passed c.args.bytes.now b.fields b.sent b.words c.unwrap.result c.args.place c.requires is c.in_ok-length.length c.in_ok-length.ensures

pub returns-in_err-length : goal.returns-in_err-length
returns-in_err-length c =
    let b = c.args.begun in
    let is = chosen_coefficients b.fields c.requires.begun.lawful c.coefficient_rule.result c.unwrap.result c.unwrap.ensures c.coefficient_rule.ensures in
    let p = err_from_is_err_and c.from_residual.result c.from_residual.ensures.1 in
    rw (p.1, p.2) (coefficients_end c.args.bytes.now b.fields b.sent b.words c.unwrap.result c.args.place c.requires is _ c.in_err-length.ensures)
