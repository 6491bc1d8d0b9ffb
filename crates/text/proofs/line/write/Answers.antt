-- The text is copied over the bytes, or a refusal leaves them.
use Rattle.std.proofs.Common.{◌+◌, ◌<◌, length, refl, arith}
use Rattle.verdict.proofs.Putting.{put_part}
use Rattle.text.proofs.Lines.{text_none, text_all}
use Rattle.text.proofs.line.write.Goals as goal
use Rattle.text.proofs.line.write.Goals.{then-out-count-via-then-out-count, then-out-count-via-else-out-count+then-out-count-2}

pub returns-then-out-count : goal.returns-then-out-count
returns-then-out-count c =
    let a = c.args in
    let short : length a.out.now < a.place + length a.text.now = elim c.then-out-count.branch [
      | then-out-count-via-then-out-count w ↦ omega arith
      | then-out-count-via-else-out-count+then-out-count-2 w ↦ omega arith
    ] in
    rw c.at.ensures (text_none a.text.now a.out.now a.place short)

pub returns : goal.returns
returns c =
    let a = c.args in
    text_all a.text.now a.out.now a.place _ (omega arith) (rw c.copy_from_slice.ensures.after (put_part a.out.now a.place (a.place + length a.text.now) a.text.now refl))
