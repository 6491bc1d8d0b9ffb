-- Each answer is the one of its tests; behind the first the text is pairs of digits.
use Rattle.std.proofs.Common.{◌∙◌, sym}
use Rattle.hexpairs.proofs.DigitPairs.{decoded_none, decoded_small, decoded_all}
use Rattle.hexpairs.proofs.decode.Goals as goal

pub returns-then-not-is_hex : goal.returns-then-not-is_hex
returns-then-not-is_hex c = rw c.at.ensures (decoded_none c.args.text.now c.args.out.now (sym c.is_hex.ensures ∙ c.if-not-is_hex.true))

pub returns-then-out-count : goal.returns-then-out-count
returns-then-out-count c = rw c.at-then-out-count.ensures (decoded_small c.args.text.now c.args.out.now (sym c.is_hex.ensures ∙ c.if-not-is_hex.false) c.if-out-count.true)

pub returns : goal.returns
returns c = decoded_all c.args.text.now c.args.out.now (sym c.is_hex.ensures ∙ c.if-not-is_hex.false) c.if-out-count.false _ (rw c.spell.ensures)
