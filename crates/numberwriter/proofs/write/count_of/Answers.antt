-- The rest has one octet fewer each time, and none once it is 0.
use Rattle.std.proofs.Common.{◌≡◌, length, arith, rules}
use Rattle.number.specs.Octets.{high}
use Rattle.number.proofs.Counts.{length_octets, length_high, length_high_none, octets_short}
use Rattle.numberwriter.proofs.write.count_of.Goals as goal

pub loop-rest-init : goal.loop-rest-init
loop-rest-init c = omega (arith, length_octets c.args.value)

pub overflow_add-count : goal.overflow_add-count
overflow_add-count c = omega (arith, c.loop-rest.invariant, octets_short c.args.value (search rules))

pub loop-rest-preserved : goal.loop-rest-preserved
loop-rest-preserved c = omega (arith, c.loop-rest.invariant, length_high c.loop-rest.rest (omega arith))

pub returns : goal.returns
returns c =
    let l = c.loop-rest in
    let e : l.rest ≡ 0 = omega arith in
    let none : length (high l.rest) ≡ 0 = rw e length_high_none in
    omega (arith, l.invariant)
