-- For private functions alone: a rule that code can keep.
use Rattle.std.specs.Prelude.{◌*◌, ◌^◌, ◌≤◌, ◌<◌, ◌≡◌, ◌⊎◌}
use Rattle.rule.specs.declared.rules.Rule.{Rule}

-- a rule of words of at most eight bytes: the sign is none or their top bit, and what it leaves is enough for the greatest
pub record Sound (rule : Rule) : Type 0 where
  pub short : rule.length ≤ 8
  pub signed : (rule.sign ≡ 0) ⊎ ((rule.sign * 2 ≡ 256 ^ rule.length) × (rule.greatest < rule.sign))
  pub room : rule.greatest < 256 ^ rule.length
