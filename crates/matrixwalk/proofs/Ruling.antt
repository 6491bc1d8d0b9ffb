-- What is known of a form's rule where the form's length is allowed. Assumes nothing.
use mathlib.Core.Path.{◌≡◌, ◌∙◌, sym, ap, subst}
use mathlib.Core.Bool.{true}
use Rattle.verdict.proofs.Cases.{by_test}
use Rattle.rule.specs.declared.rules.Form.{Form}
use Rattle.rule.specs.declared.rules.Rule.{Rule}
use Rattle.rule.specs.Rules.{allowed, rule_of}
use Rattle.rule.specs.Sound.{Sound}
use Rattle.rule.proofs.Certain.{deviation_sound, coefficient_sound, deviation_length, coefficient_length}
use Rattle.matrixwalk.specs.declared.ruled.Ruled.{Ruled}

module _ (form : Form) (h : allowed form.mapped form.length ≡ true) where
  form_sound : Sound (rule_of form)
  form_sound = by_test Sound form.coefficients _ _ (λ _. coefficient_sound form.mapped form.length h) (λ _. deviation_sound form.mapped form.length h)

  form_length : (rule_of form).length ≡ form.length
  form_length = by_test (λ (rule : Rule). rule.length ≡ form.length) form.coefficients _ _ (λ _. coefficient_length form.mapped form.length h) (λ _. deviation_length form.mapped form.length h)

module _ (ruled : Ruled) where
  pub sound_of : Sound ruled.rule
  sound_of = subst Sound (sym ruled.formed) (form_sound ruled.form ruled.allowed)

  pub as_long : ruled.rule.length ≡ ruled.form.length
  as_long = ap (λ (rule : Rule). rule.length) ruled.formed ∙ form_length ruled.form ruled.allowed
