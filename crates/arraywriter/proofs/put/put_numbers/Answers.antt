-- The next number is left, and those behind it.
use Rattle.std.proofs.Common.{refl, drop, get_or, drop_of_length-le, add-one, arith}
use Prim.Native.Nat.{suc}
use Rattle.number.specs.Octets.{octets, numbers}
use Rattle.arraywriter.proofs.Parts.{put_to_none, put_to_room, put_to_more, put_to_all, numbers_from, numbers_none}
use Rattle.arraywriter.proofs.put.put_numbers.Goals as goal

pub loop-value-init : goal.loop-value-init
loop-value-init c = let a = c.args in put_to_none a.out.now a.place (numbers a.values.now) a.place refl

pub put_number-at-requires : goal.put_number-at-requires
put_number-at-requires c =
    let a = c.args in
    let l = c.loop-value in
    let next = rw (numbers_from a.values.now l.value-index (omega arith)) at l.invariant in
    put_to_room a.out.now a.place (numbers a.values.now) c.requires l.at (octets (get_or a.values.now l.value-index 0)) (numbers (drop (suc l.value-index) a.values.now)) l.out next

pub loop-value-preserved : goal.loop-value-preserved
loop-value-preserved c =
    let a = c.args in
    let l = c.loop-value in
    let n = c.put_number-at in
    let next = rw (numbers_from a.values.now l.value-index (omega arith)) at l.invariant in
    rw add-one
    (put_to_more a.out.now a.place (numbers a.values.now) c.requires l.at (octets (get_or a.values.now l.value-index 0)) (numbers (drop (suc l.value-index) a.values.now)) l.out n.result n.new.out next n.ensures.value n.ensures.out_after)

pub returns : goal.returns
returns c =
    let a = c.args in
    let l = c.loop-value in
    let all = put_to_all a.out.now a.place (numbers a.values.now) c.requires l.at (numbers (drop l.value-index a.values.now)) l.out (rw (drop_of_length-le a.values.now {i = l.value-index} (omega arith)) numbers_none) l.invariant in
    record { value = all.0; out_after = all.1 }
