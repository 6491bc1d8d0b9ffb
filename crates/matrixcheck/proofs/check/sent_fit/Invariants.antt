-- The words ahead decide.
use Rattle.std.proofs.Common.{◌≡◌, drop}
use Rattle.rule.specs.Rules.{rule_of}
use Rattle.matrixcheck.specs.Given.{sent_fit}
use Rattle.matrixcheck.proofs.check.sent_fit.Given as goal

abbrev pub invariant-loop-i : goal.invariant-loop-i
invariant-loop-i l = sent_fit (rule_of l.form) l.marks l.words ≡ sent_fit (rule_of l.form) (drop l.i l.marks) (drop l.i l.words)
