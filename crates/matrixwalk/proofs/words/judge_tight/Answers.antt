-- A whole word that its form's check admits breaks its rule nowhere.
use Rattle.std.proofs.Common.{◌≡◌, ℕ, true, ◌∙◌, sym, ap, subst, arith}
use Rattle.rule.specs.declared.rules.Rule.{Rule}
use Rattle.rule.specs.Rules.{admitted, rule_of}
use Rattle.rule.proofs.Certain.{admitted_keeps}
use Rattle.word.specs.Bytes.{word_at}
use Rattle.word.proofs.Whole.{part_word}
use Rattle.matrixwalk.proofs.Ruling.{sound_of, as_long}
use Rattle.matrixwalk.proofs.Passing.{whole_keeps}
use Rattle.matrixwalk.proofs.words.judge_tight.Goals as goal

pub returns-then-admits : goal.returns-then-admits
returns-then-admits c =
    let a = c.args in
    let bytes = a.bytes.now in
    let is : c.any_word_of.result ≡ word_at bytes a.at a.ruled.form.length = c.any_word_of.ensures ∙ part_word bytes a.at a.ruled.form.length (omega (arith, as_long a.ruled)) (omega (arith, c.requires.0.within, c.if-ruled-until.true)) in
    let admits : admitted a.ruled.rule (word_at bytes a.at a.ruled.rule.length) ≡ true =
    subst (λ (rule : Rule). admitted rule (word_at bytes a.at a.ruled.rule.length) ≡ true) (sym a.ruled.formed)
    (subst (λ (n : ℕ). admitted (rule_of a.ruled.form) (word_at bytes a.at n) ≡ true) (sym (as_long a.ruled))
    (ap (admitted (rule_of a.ruled.form)) (sym is) ∙ sym c.admits.ensures ∙ c.if-admits.true)) in
    whole_keeps bytes a.at a.until a.ruled.rule c.requires.0 (sound_of a.ruled) (λ i. (c.type_inv.bytes i).fits) (omega (arith, c.if-ruled-until.true, as_long a.ruled)) ((admitted_keeps a.ruled.rule _).0 admits)
