-- The first part stands before the rest.
use Rattle.std.proofs.Common.{◌-◌, arith}
use Rattle.word.proofs.Digits.{Below, word_fits, shifted_part}
use Rattle.word.proofs.bytes.word_in.Goals as goal

pub returns : goal.returns
returns c =
    let small : Below 256 c.args.bytes.now = λ k. (c.type_inv.bytes k).fits in
    let first = c.lesser-first.result in
    shifted_part c.args.bytes.now c.args.place small first (c.args.length - first) c.args.length c.part_in.result c.part_in-2.result
    (omega (arith, c.lesser-first.ensures)) (omega arith) (omega arith) c.part_in.ensures c.part_in-2.ensures

pub overflow_add-result : goal.overflow_add-result
overflow_add-result c =
    let small : Below 256 c.args.bytes.now = λ k. (c.type_inv.bytes k).fits in
    let first = c.lesser-first.result in
    let joined = shifted_part c.args.bytes.now c.args.place small first (c.args.length - first) c.args.length c.part_in.result c.part_in-2.result
    (omega (arith, c.lesser-first.ensures)) (omega arith) (omega arith) c.part_in.ensures c.part_in-2.ensures in
    record { fits = omega (arith, joined, word_fits c.args.bytes.now c.args.place c.args.length small (omega arith)) }
