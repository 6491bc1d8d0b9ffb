-- An octet that passed the tests is drawn.
use Rattle.std.proofs.Common.{◌≡◌, ◌<◌, ◌∙◌, true, sym, arith, slice_index_or}
use mathlib.Core.Bool.{true≢false}
use Rattle.number.proofs.Drawing.{short_drawn}
use Rattle.number.proofs.draw_short.Goals as goal
use Rattle.number.proofs.draw_short.Goals.{else-octet-eq0-via-then-octet-eq0+else-positive, else-octet-eq0-via-else-octet-eq0}

pub returns : goal.returns
returns c =
    let a = c.args in
    let got = c.in_ok-get.ensures.lookup in
    let there = got.3.0 in
    let octet = c.from-octet.result in
    let is : octet ≡ slice_index_or a.bytes.now a.place 0 = c.from-octet.ensures ∙ got.4 (omega arith) 0 in
    let some : a.positive ≡ true → 0 < octet =
    elim c.else-octet-eq0.branch [
      | else-octet-eq0-via-then-octet-eq0+else-positive w ↦ λ p. absurd (true≢false (sym p ∙ w.if-positive.false))
      | else-octet-eq0-via-else-octet-eq0 w ↦ λ p. omega (arith, w.if-octet-eq0.false)
    ] in
    (there, short_drawn a.bytes.now a.place a.positive a.most a.product octet there is c.if-octet-ge128.false (rw (c.from.ensures, c.from-2.ensures) at c.if-from-octet.false) some)
