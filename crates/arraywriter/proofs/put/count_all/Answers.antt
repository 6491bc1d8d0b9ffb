-- One number more is counted; all of them are short.
use Rattle.std.proofs.Common.{◌≡◌, length, drop, drop_of_length-le, add-one, arith}
use Rattle.number.specs.Octets.{numbers}
use Rattle.arraywriter.proofs.Parts.{length_numbers_from, numbers_short, numbers_none}
use Rattle.arraywriter.proofs.put.count_all.Goals as goal

pub overflow_add-count : goal.overflow_add-count
overflow_add-count c =
    let l = c.loop-value in
    let v = c.args.values.now in
    omega (arith, l.invariant, c.count_of-count.ensures, length_numbers_from v l.value-index (omega arith), c.requires, numbers_short v (λ k. (c.type_inv.values k).fits))

pub loop-value-preserved : goal.loop-value-preserved
loop-value-preserved c =
    let l = c.loop-value in
    rw add-one (omega (arith, l.invariant, c.count_of-count.ensures, length_numbers_from c.args.values.now l.value-index (omega arith)))

pub returns : goal.returns
returns c =
    let l = c.loop-value in
    let v = c.args.values.now in
    let none : length (numbers (drop l.value-index v)) ≡ 0 = rw (drop_of_length-le v {i = l.value-index} (omega arith), numbers_none) in
    omega (arith, l.invariant)
