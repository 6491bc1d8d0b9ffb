-- Of a full matrix all are sent that have bytes.
use Rattle.rule.specs.Rules.{rule_of_coefficients}
use Rattle.matrixcheck.proofs.Fitting.{full_coefficients}
use Rattle.matrixcheck.proofs.check.coefficients_fit.Goals as goal

pub returns : goal.returns
returns c =
    let a = c.args in
    full_coefficients a.f (rule_of_coefficients a.f.cf a.f.clen) a.marks.now a.coefficients.now c.words_fit.result c.requires.1 c.requires.0 c.if-f.false c.words_fit.ensures
