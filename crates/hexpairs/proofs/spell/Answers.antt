-- Both characters of a pair are digits; and the pairs before `i` are spelled.
use Rattle.std.proofs.Common.{arith, refl}
use Rattle.hexpairs.proofs.DigitPairs.{pair_digits, spelled_more, spelled_all}
use Rattle.hexpairs.proofs.spell.Goals as goal

pub loop-i-init : goal.loop-i-init
loop-i-init c = record { pairs = c.requires.0; means = refl }

pub digit-requires : goal.digit-requires
digit-requires c =
    let l = c.loop-i in
    (pair_digits c.args.text.now l.i l.out l.invariant (omega arith)).0

pub digit-requires-in-loop-i : goal.digit-requires-in-loop-i
digit-requires-in-loop-i c =
    let l = c.loop-i in
    (pair_digits c.args.text.now l.i l.out l.invariant (omega arith)).1.0

pub loop-i-preserved : goal.loop-i-preserved
loop-i-preserved c =
    let l = c.loop-i in
    spelled_more c.args.text.now l.i l.out l.invariant (omega arith) c.digit.result c.digit-in-loop-i.result c.digit.ensures.0 c.digit-in-loop-i.ensures.0 (omega arith)

pub returns : goal.returns
returns c =
    let l = c.loop-i in
    spelled_all c.args.text.now l.i l.out l.invariant (omega arith) (omega arith)
