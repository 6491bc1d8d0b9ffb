-- What the effect of the octet here leads to is the answer.
use Rattle.std.proofs.Common.{sym, ◌∙◌, arith}
use Rattle.std.specs.Prelude.{Ok, Err}
use Rattle.number.specs.declared.Effect.TheVariants.{Ends, GoesOn}
use Rattle.number.proofs.Drawing.{draw_past_end, draw_octet}
use Rattle.number.proofs.draw_long.Goals as goal

pub returns-in-Ok-Ends : goal.returns-in-Ok-Ends
returns-in-Ok-Ends c =
    let a = c.args in let l = c.loop-at in
    sym (l.invariant ∙ draw_octet a.bytes.now l.at l.value a.positive a.most (omega arith) (Ok (Ends c.in-Ok-Ends.whole)) (rw c.in-Ok-Ends.field-0-is at c.in-Ok-Ends.ensures))

pub loop-at-preserved : goal.loop-at-preserved
loop-at-preserved c =
    let a = c.args in let l = c.loop-at in
    l.invariant ∙ draw_octet a.bytes.now l.at l.value a.positive a.most (omega arith) (Ok (GoesOn c.in-Ok-GoesOn.begun)) (rw c.in-Ok-GoesOn.field-0-is at c.in-Ok-GoesOn.ensures)

pub returns-in-Err : goal.returns-in-Err
returns-in-Err c =
    let a = c.args in let l = c.loop-at in
    rw c.at.ensures (sym (l.invariant ∙ draw_octet a.bytes.now l.at l.value a.positive a.most (omega arith) (Err c.in-Err.reason) c.in-Err.ensures))

pub returns : goal.returns
returns c = let a = c.args in let l = c.loop-at in sym (l.invariant ∙ draw_past_end a.bytes.now l.at l.value a.positive a.most (omega arith))
