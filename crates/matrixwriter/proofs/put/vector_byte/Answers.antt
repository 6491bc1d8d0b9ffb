-- The value of the bits so far, which is a byte.
use Rattle.std.proofs.Common.{refl, arith}
use Rattle.word.specs.Digits.{value_on}
use Rattle.matrixwriter.proofs.Spelled.{bits_next, bits_small}
use Rattle.matrixwriter.proofs.put.vector_byte.Goals as goal

pub loop-i-init : goal.loop-i-init
unfolding value_on
loop-i-init c = refl

pub overflow_mul-value : goal.overflow_mul-value
overflow_mul-value c = omega (arith, c.loop-i.invariant, bits_small c.args.marks.now c.args.pair c.loop-i.i (omega arith) c.requires.1)

pub overflow_add-value : goal.overflow_add-value
overflow_add-value c =
    omega (arith, c.loop-i.invariant, bits_small c.args.marks.now c.args.pair c.loop-i.i (omega arith) c.requires.1, c.byte_at.ensures.1)

pub loop-i-preserved : goal.loop-i-preserved
loop-i-preserved c = bits_next c.args.marks.now c.args.pair c.loop-i.i c.loop-i.value c.byte_at.result c.loop-i-test.true c.loop-i.invariant c.byte_at.ensures.0

pub overflow_cast-result : goal.overflow_cast-result
overflow_cast-result c = omega (arith, c.loop-i.invariant, bits_small c.args.marks.now c.args.pair c.loop-i.i (omega arith) c.requires.1)
