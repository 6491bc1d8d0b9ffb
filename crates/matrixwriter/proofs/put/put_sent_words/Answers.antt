-- The word here is put if it is sent, and those ahead are still to be put.
use Rattle.std.proofs.Common.{refl, arith}
use lib.ListN.{length-drop}
use Rattle.matrixwriter.proofs.Putting.{next_room, next_sendable, next_put, sent_here, all_put}
use Rattle.matrixwriter.proofs.put.put_sent_words.Goals as goal

pub loop-i-init : goal.loop-i-init
loop-i-init c = record { sendable = c.requires.0; as_many = c.requires.1.0; room = c.requires.1.1; ahead = refl }

pub put_sent-requires : goal.put_sent-requires
put_sent-requires c = next_sendable _ _ _ _ _ _ _ _ (sent_here _ _ _ _ _ _ _ c.requires.1.0 c.loop-i-test.true c.loop-i.invariant)

pub overflow_add-at : goal.overflow_add-at
overflow_add-at c =
    let room = next_room _ _ _ _ _ _ _ _ (sent_here _ _ _ _ _ _ _ c.requires.1.0 c.loop-i-test.true c.loop-i.invariant) in
    record { fits = omega (arith, room) }

pub loop-i-preserved : goal.loop-i-preserved
loop-i-preserved c = next_put _ _ _ _ _ _ _ _ (sent_here _ _ _ _ _ _ _ c.requires.1.0 c.loop-i-test.true c.loop-i.invariant) c.put_sent.new.out c.put_sent.ensures

pub returns : goal.returns
returns c =
    let a = c.args in
    let l = c.loop-i in
    all_put _ _ l.out l.at _ _ l.invariant (rw (length-drop l.i a.marks.now) (omega arith))
