-- The answer from here is the answer from the start.
use Rattle.std.proofs.Common.{◌≡◌, drop}
use Rattle.number.specs.Draw.{draw_on, draw_at}
use Rattle.number.proofs.draw_long.Given as goal

abbrev pub invariant-loop-at : goal.invariant-loop-at
invariant-loop-at l = draw_at l.bytes l.place l.positive l.most ≡ draw_on (drop l.at l.bytes) l.at l.value l.positive l.most
