-- The octets after the first `left` are stored over what was there at the call.
use Rattle.numberwriter.proofs.Written.{Stored}
use Rattle.numberwriter.proofs.write.put_at.Given as goal

abbrev pub invariant-loop-left : goal.invariant-loop-left
invariant-loop-left l = Stored l.fn.out l.place l.value l.left l.rest l.out
