-- What a form admits whose rule is known. Assumes nothing.
use Prim.Native.Nat.{ℕ, ◌-◌, ◌/◌, ◌^◌, ◌≤◌, ◌<◌}
use mathlib.Core.Path.{◌≡◌, refl, sym, ap, ◌∙◌}
use mathlib.Core.Bool.{Bool, true, false, cond}
use native.Mathlib.Omega.{arith}
use borrow.Author.Tests.{le-leb, leb-false}
use lib.Dec.{leb}
use native.Mathlib.Nat.{pow-le-pow_right}
use Rattle.std.specs.Prelude.{Ok, Err}
use Rattle.verdict.specs.declared.Reason.TheVariants.{ValueLength}
use Rattle.verdict.specs.declared.Refusal.{Refusal}
use Rattle.rule.specs.declared.rules.Form.{Form}
use Rattle.rule.specs.declared.rules.Rule.{Rule}
use Rattle.rule.specs.Rules.{admitted, mapped_rule, rule_of_deviations, rule_of_coefficients, rule_of, ruled_by}

-- a mapped word is admitted up to half of the words of its length
pub mapped_admitted : (n word greatest : ℕ) → greatest ≡ 256 ^ n / 2 → leb word greatest ≡ admitted (mapped_rule n) word
mapped_admitted n word greatest e = let z : word - 0 ≡ word = omega arith in rw (e, le-leb 0 word (omega arith), z)

-- and every word of eight bytes where that is more
pub longer_admitted : (n word : ℕ) → 8 < n → word < 2 ^ 64 → true ≡ admitted (mapped_rule n) word
longer_admitted n word h fits =
    let most : 256 ^ 9 ≤ 256 ^ n = pow-le-pow_right {n = 256} (omega arith) {i = 9} {j = n} h in
    sym (le-leb word (256 ^ n / 2) (omega arith)) ∙ mapped_admitted n word (256 ^ n / 2) refl

pub mapped_form : (form : Form) (word : ℕ) → form.mapped ≡ true → admitted (mapped_rule form.length) word ≡ admitted (rule_of form) word
mapped_form form word e = go form.coefficients
  where
    go : (t : Bool) → admitted (mapped_rule form.length) word ≡ admitted (cond t (rule_of_coefficients form.mapped form.length) (rule_of_deviations form.mapped form.length)) word
    go true = rw e
    go false = rw e

-- no rule is refused for a length up to eight
mapped_long : (n : ℕ) (rule : Rule) (refusal : Refusal) → Err refusal ≡ ruled_by true n rule → 8 < n
mapped_long n rule refusal = go (leb n 8) refl
  where
    go : (t : Bool) → leb n 8 ≡ t → Err refusal ≡ cond t (Ok rule) (Err (record { reason = ValueLength; place = 0 })) → 8 < n
    go true h k = absurd (let z : ◌≡◌ {A = ℕ} 0 1 = cc in omega arith)
    go false h k = leb-false n 8 h

pub unruled_admitted : (form : Form) (word : ℕ) (refusal : Refusal) → form.mapped ≡ true → Err refusal ≡ ruled_by form.mapped form.length (rule_of form) → word < 2 ^ 64 → form.mapped ≡ admitted (rule_of form) word
unruled_admitted form word refusal e r fits =
    let long : 8 < form.length = mapped_long form.length (rule_of form) refusal (r ∙ ap (λ (t : Bool). ruled_by t form.length (rule_of form)) e) in
    e ∙ longer_admitted form.length word long fits ∙ mapped_form form word e

-- it has no sign
pub mapped_unsigned : (form : Form) → form.mapped ≡ true → (rule_of form).sign ≡ 0
mapped_unsigned form e = go form.coefficients
  where
    go : (t : Bool) → (cond t (rule_of_coefficients form.mapped form.length) (rule_of_deviations form.mapped form.length)).sign ≡ 0
    go true = rw e
    go false = rw e
