-- Where the form has no such length, every mapped word is admitted.
use mathlib.Core.Path.{sym, ◌∙◌}
use Rattle.rule.proofs.Ruling.{unruled_admitted}
use Rattle.rule.proofs.rules.Form.admits.Goals as goal

pub returns-in-Err : goal.returns-in-Err
returns-in-Err c = sym c.if-self.true ∙ unruled_admitted c.args.self c.args.word c.in-Err.field-0 c.if-self.true c.in-Err.ensures c.ranges.word.fits
