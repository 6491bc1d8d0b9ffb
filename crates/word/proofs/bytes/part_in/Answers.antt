-- The bytes so far, at their weight: `shifted_byte` adds the next one.
use Rattle.std.proofs.Common.{◌+◌, arith}
use Rattle.word.specs.Digits.{value_on}
use Rattle.word.proofs.Digits.{Below, weight_fits, shifted_byte}
use Rattle.word.proofs.bytes.part_in.Goals as goal

pub loop-i-init : goal.loop-i-init
unfolding value_on
loop-i-init c = (omega arith, omega arith)

pub overflow_add-value-in-loop-i : goal.overflow_add-value-in-loop-i
overflow_add-value-in-loop-i c =
    let bytes = c.args.bytes.now in
    let small : Below 256 bytes = λ k. (c.type_inv.bytes k).fits in
    let stepped = shifted_byte bytes c.args.place small c.args.length c.loop-i.i (omega arith) (omega arith) (omega arith) c.loop-i.value c.loop-i.invariant.1 in
    record { fits = omega (arith, stepped, weight_fits bytes c.args.place c.args.length (c.loop-i.i + 1) small (omega arith) (omega arith)) }

pub loop-i-preserved : goal.loop-i-preserved
loop-i-preserved c =
    let bytes = c.args.bytes.now in
    let small : Below 256 bytes = λ k. (c.type_inv.bytes k).fits in
    (omega arith, shifted_byte bytes c.args.place small c.args.length c.loop-i.i (omega arith) (omega arith) (omega arith) c.loop-i.value c.loop-i.invariant.1)
