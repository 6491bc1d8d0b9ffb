-- The word at the loop's place is tested if it is sent, and then those ahead.
use Rattle.std.proofs.Common.{◌∙◌, sym}
use borrow.Author.Tests.{ne_eqb}
use Rattle.rule.specs.Rules.{rule_of}
use Rattle.matrixcheck.proofs.Fitting.{sent_from, sent_behind}
use Rattle.matrixcheck.proofs.check.sent_fit.Goals.{else-mark-ne0-via-then-mark-ne0+else-not-admits, else-mark-ne0-via-else-mark-ne0}
use Rattle.matrixcheck.proofs.check.sent_fit.Goals as goal

pub loop-i-preserved : goal.loop-i-preserved
loop-i-preserved c =
    let a = c.args in
    let l = c.loop-i in
    l.invariant ∙ sent_from (rule_of a.form) a.marks.now a.words.now l.i c.requires c.loop-i-test.true
    ∙ elim c.else-mark-ne0.branch [
      | else-mark-ne0-via-then-mark-ne0+else-not-admits w ↦ rw (ne_eqb _ 0 w.if-mark-ne0.true, ← w.admits.ensures, w.if-not-admits.false)
      | else-mark-ne0-via-else-mark-ne0 w ↦ rw w.if-mark-ne0.false
    ]

pub returns-then-not-admits : goal.returns-then-not-admits
returns-then-not-admits c =
    let a = c.args in
    let l = c.loop-i in
    sym (l.invariant ∙ sent_from (rule_of a.form) a.marks.now a.words.now l.i c.requires c.loop-i-test.true ∙ rw (ne_eqb _ 0 c.if-mark-ne0.true, ← c.admits.ensures, c.if-not-admits.true))

pub returns : goal.returns
returns c =
    let a = c.args in
    let l = c.loop-i in
    sent_behind (rule_of a.form) a.marks.now a.words.now l.i c.loop-i-test.false ∙ sym l.invariant
