-- The deviations and then the coefficients are tested, each list as far as it is used.
use Rattle.std.proofs.Common.{◌∙◌, ap}
use mathlib.Core.Bool.{not}
use Rattle.counts.proofs.Counts.{pairs_counted}
use Rattle.rule.specs.Rules.{rule_of_deviations, rule_of_coefficients}
use Rattle.matrixcheck.proofs.Checking.{deviations_broken, coefficients_broken, values_kept}
use Rattle.matrixcheck.proofs.Fitting.{deviations_front, coefficients_front}
use Rattle.matrixcheck.proofs.check.check_values.Goals as goal

pub returns-then-not-deviations_fit : goal.returns-then-not-deviations_fit
returns-then-not-deviations_fit c =
    let a = c.args in
    let f = a.f in
    let tested = c.deviations_fit.ensures ∙ deviations_front f (rule_of_deviations f.sf f.slen) a.deviations.now c.requires.1.0.deviations_enough in
    deviations_broken f a.deviations.now a.coefficients.now a.marks.now a.sent c.requires.1.1.0 c.if-f-sent.false c.deviations_fit.result tested (ap not c.if-not-deviations_fit.true)

pub returns-then-not-coefficients_fit : goal.returns-then-not-coefficients_fit
returns-then-not-coefficients_fit c =
    let a = c.args in
    let f = a.f in
    let count = c.pairs_of-count.result in
    let tested = c.deviations_fit.ensures ∙ deviations_front f (rule_of_deviations f.sf f.slen) a.deviations.now c.requires.1.0.deviations_enough in
    let found = c.coefficients_fit.ensures ∙ coefficients_front (rule_of_coefficients f.cf f.clen) a.marks.now a.coefficients.now count in
    coefficients_broken f a.deviations.now a.coefficients.now a.marks.now a.sent c.requires.1.1.0 c.if-f-sent.false c.deviations_fit.result tested (ap not c.if-not-deviations_fit.false)
    count (pairs_counted f.n count c.requires.0.first.size_most c.pairs_of-count.ensures) c.coefficients_fit.result found (ap not c.if-not-coefficients_fit.true)

pub returns : goal.returns
returns c =
    let a = c.args in
    let f = a.f in
    let count = c.pairs_of-count.result in
    let tested = c.deviations_fit.ensures ∙ deviations_front f (rule_of_deviations f.sf f.slen) a.deviations.now c.requires.1.0.deviations_enough in
    let found = c.coefficients_fit.ensures ∙ coefficients_front (rule_of_coefficients f.cf f.clen) a.marks.now a.coefficients.now count in
    values_kept f a.deviations.now a.coefficients.now a.marks.now a.sent c.requires.1.1.0 c.if-f-sent.false c.deviations_fit.result tested (ap not c.if-not-deviations_fit.false)
    count (pairs_counted f.n count c.requires.0.first.size_most c.pairs_of-count.ensures) c.coefficients_fit.result found (ap not c.if-not-coefficients_fit.false)
