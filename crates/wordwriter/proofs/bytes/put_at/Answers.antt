-- The bytes after the first `i` are stored: one more with each step.
use Rattle.std.proofs.Common.{◌-◌, ◌≡◌, suc, arith}
use Rattle.word.proofs.Filled.{stored_none, stored_more}
use Rattle.wordwriter.proofs.bytes.put_at.Goals as goal

pub loop-i-init : goal.loop-i-init
loop-i-init c = stored_none c.args.out.now c.args.place c.args.length c.args.word

pub loop-i-preserved : goal.loop-i-preserved
loop-i-preserved c =
    let a = c.args in
    let l = c.loop-i in
    let e : l.i ≡ suc (l.i - 1) = omega arith in
    stored_more a.out.now a.place a.length a.word (l.i - 1) l.rest l.out c.requires (rw e at l.invariant)
