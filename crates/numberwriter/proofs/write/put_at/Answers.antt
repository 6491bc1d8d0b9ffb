-- The last octet is stored first, and each one before those that are.
use Rattle.std.proofs.Common.{◌≡◌, ◌-◌, arith}
use Prim.Native.Nat.{suc}
use Rattle.number.proofs.Octets.{octets_some}
use Rattle.numberwriter.proofs.Written.{stored_last, stored_more}
use Rattle.numberwriter.proofs.write.put_at.Goals as goal

pub overflow_sub-last : goal.overflow_sub-last
overflow_sub-last c = omega (arith, octets_some c.args.value)

pub bounds-out-place : goal.bounds-out-place
bounds-out-place c = omega (arith, octets_some c.args.value)

pub loop-left-init : goal.loop-left-init
loop-left-init c =
    let a = c.args in
    stored_last a.out.now a.place a.value (omega arith) (a.count - 1) (omega (arith, octets_some a.value))

pub loop-left-preserved : goal.loop-left-preserved
loop-left-preserved c =
    let a = c.args in
    let l = c.loop-left in
    let p : l.left ≡ suc (l.left - 1) = omega arith in
    stored_more a.out.now a.place a.value (omega arith) (l.left - 1) l.rest l.out (rw p at l.invariant)
