-- The contract of each public function, as the source states it, admits one answer. Assumes nothing.
use mathlib.Core.Path.{◌∙◌, sym}
use Rattle.verdict.proofs.OneAnswer.{OneAnswer}
use Rattle.rule.proofs.rules.deviation_rule.Kinds as deviation_rule
use Rattle.rule.proofs.rules.deviation_rule.Reads as deviation-rule-reads
use Rattle.rule.proofs.rules.coefficient_rule.Kinds as coefficient_rule
use Rattle.rule.proofs.rules.coefficient_rule.Reads as coefficient-rule-reads
use Rattle.rule.proofs.scaled.scale.Kinds as scale
use Rattle.rule.proofs.scaled.scale.Reads as scale-reads
use Rattle.rule.proofs.rules.Form.admits.Kinds as form-admits
use Rattle.rule.proofs.rules.Form.admits.Reads as form-admits-reads

pub form_admits_only : OneAnswer form-admits.ps form-admits.r form-admits-reads.Post
form_admits_only κs a x y s t p q = p ∙ sym q

pub deviation_rule_only : OneAnswer deviation_rule.ps deviation_rule.r deviation-rule-reads.Post
deviation_rule_only κs a x y s t p q = p ∙ sym q

pub coefficient_rule_only : OneAnswer coefficient_rule.ps coefficient_rule.r coefficient-rule-reads.Post
coefficient_rule_only κs a x y s t p q = p ∙ sym q

pub scale_only : OneAnswer scale.ps scale.r scale-reads.Post
scale_only κs a x y s t p q = p ∙ sym q
