-- Mapped words keep their rule where all their bits together do.
use Rattle.std.proofs.Common.{◌∙◌, ap, sym, arith}
use Rattle.rule.specs.Rules.{admitted, rule_of}
use Rattle.rule.proofs.Ruling.{mapped_unsigned}
use Rattle.matrixcheck.proofs.Fitting.{gathered_keeps, all_tested, words_none, words_some}
use Rattle.matrixcheck.proofs.check.words_fit.Goals as goal

pub returns-then-form-eq0 : goal.returns-then-form-eq0
returns-then-form-eq0 c = words_none (rule_of c.args.form) c.args.words.now c.args.form.length (omega arith)

pub returns-then-admits : goal.returns-then-admits
returns-then-admits c =
    let a = c.args in
    let rule = rule_of a.form in
    words_some rule a.words.now a.form.length _ (λ e. omega arith)
    (gathered_keeps rule (mapped_unsigned a.form c.if-form.true) a.words.now (ap (admitted rule) (sym c.gather.ensures) ∙ sym c.admits.ensures ∙ c.if-admits.true))

pub returns : goal.returns
returns c =
    let a = c.args in
    let rule = rule_of a.form in
    words_some rule a.words.now a.form.length c.each_fits.result (λ e. omega arith) (c.each_fits.ensures ∙ all_tested rule a.words.now)
