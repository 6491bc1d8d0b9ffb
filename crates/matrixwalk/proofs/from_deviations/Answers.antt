-- Behind the deviations the coefficients follow.
use Rattle.std.proofs.Common.{ap, arith}
use Rattle.std.proofs.lemmas.Result.{err_from_is_err_and}
use Rattle.matrix.proofs.Counts.{coefficients_most}
use Rattle.rule.specs.declared.rules.Rule.{Rule}
use Rattle.rule.proofs.Certain.{deviation_sound}
use Rattle.matrixwalk.proofs.Walking.{deviations_ruled, chosen_deviations, deviations_passed, deviations_end}
use Rattle.matrixwalk.proofs.from_deviations.Goals as goal

pub unwrap-requires : goal.unwrap-requires
unwrap-requires c = rw (c.deviation_rule.ensures, deviations_ruled c.args.begun.fields c.requires.lawful)

pub invariant_of-ruled : goal.invariant_of-ruled
invariant_of-ruled c =
    let f = c.args.begun.fields in
    let lawful = c.requires.lawful in
    let is = chosen_deviations f lawful c.deviation_rule.result c.unwrap.result c.unwrap.ensures c.deviation_rule.ensures in
    record { allowed = lawful.deviation_length; formed = is; short = omega (arith, ap (λ (r : Rule). r.length) is, (deviation_sound f.sf f.slen lawful.deviation_length).short) }

pub pass-requires : goal.pass-requires
pass-requires c = (omega (arith, c.requires.lawful.first.size_most), c.requires.within, omega (arith, coefficients_most c.args.begun.fields c.args.begun.sent c.requires.lawful.first c.requires.counted))

pub from_coefficients-requires : goal.from_coefficients-requires
from_coefficients-requires c =
    let b = c.args.begun in
    let is = chosen_deviations b.fields c.requires.lawful c.deviation_rule.result c.unwrap.result c.unwrap.ensures c.deviation_rule.ensures in
    deviations_passed c.args.bytes.now b.fields b.sent b.words c.unwrap.result c.requires is c.in_ok-place.place c.in_ok-place.ensures

pub returns-in_err-place : goal.returns-in_err-place
returns-in_err-place c =
    let b = c.args.begun in
    let is = chosen_deviations b.fields c.requires.lawful c.deviation_rule.result c.unwrap.result c.unwrap.ensures c.deviation_rule.ensures in
    let p = err_from_is_err_and c.from_residual.result c.from_residual.ensures.1 in
    rw (p.1, p.2) (deviations_end c.args.bytes.now b.fields b.sent b.words c.unwrap.result c.requires is _ c.in_err-place.ensures)
