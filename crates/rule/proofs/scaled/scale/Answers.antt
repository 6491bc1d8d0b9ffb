-- Each answer is the one of its tests.
use Rattle.std.proofs.Common.{◌/◌, ◌^◌, ◌<◌, ◌∙◌, ap, sym, arith}
use borrow.Author.Tests.{ne_eqb, lt-ltb, le-ltb}
use Rattle.std.specs.Prelude.{Ok, Err}
use Rattle.rule.proofs.Signed.{nought_twice, nought_small, less_fits, less_back, scaled_value}
use Rattle.rule.proofs.scaled.scale.Goals as goal

pub overflow_mul-unit : goal.overflow_mul-unit
overflow_mul-unit c = record { fits = omega (arith, nought_small c.args.length (omega arith)) }

pub returns-then-unit-word : goal.returns-then-unit-word
returns-then-unit-word c =
    let a = c.args in
    let over : 256 ^ a.length / 2 < a.word = omega (arith, nought_twice a.length (omega arith)) in
    simp (ne_eqb _ _ c.if-length-eq0.false, le-ltb _ _ c.if-length-gt8.false, lt-ltb _ _ over) (ap Err c.at-then-unit-word.ensures)

pub overflow_cast-result-else-unit-word-2 : goal.overflow_cast-result-else-unit-word-2
overflow_cast-result-else-unit-word-2 c = record { sfits = omega (arith, nought_small c.args.length (omega arith)) }

pub overflow_sub-result-else-unit-word-2-2 : goal.overflow_sub-result-else-unit-word-2-2
overflow_sub-result-else-unit-word-2-2 c = less_fits c.args.word c.nought-unit.result (omega arith) (omega (arith, nought_small c.args.length (omega arith)))

pub returns-else-unit-word-2 : goal.returns-else-unit-word-2
returns-else-unit-word-2 c =
    let a = c.args in
    ap Ok (less_back a.word c.nought-unit.result (omega arith) (omega (arith, nought_small a.length (omega arith))))
    ∙ rw c.nought-unit.ensures (sym (scaled_value a.word a.length (omega arith) (omega arith) (omega (arith, nought_twice a.length (omega arith)))))
