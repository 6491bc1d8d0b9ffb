-- Without bytes there are none.
use Rattle.std.proofs.Common.{ℕ, ◌≡◌, ◌<◌, ◌*◌, ◌∙◌, sym, ap, arith, length as count, take}
use lib.Seq.{length-take-le, get_or-take}
use Rattle.verdict.specs.Writing.{put}
use Rattle.verdict.proofs.Putting.{put_none}
use Rattle.matrix.proofs.WordRuns.{get_D_ones}
use Rattle.matrixwriter.proofs.Spelled.{deviations_none, deviations_all, first_spelled}
use Rattle.matrixwriter.proofs.put.put_deviations.Goals as goal

pub returns-then-f-eq0 : goal.returns-then-f-eq0
returns-then-f-eq0 c =
    let a = c.args in
    rw (deviations_none a.f a.deviations.now (omega (arith, c.if-f-eq0.true))) (sym (put_none a.out.now a.place))

pub put_words-requires : goal.put_words-requires
put_words-requires c =
    let a = c.args in
    let f = a.f in
    let s = c.requires.0.sendable (omega (arith, c.if-f-eq0.false)) in
    let l : count (take f.n a.deviations.now) ≡ f.n = length-take-le f.n a.deviations.now c.requires.0.enough in (
      s.short,
      (
        omega (arith, c.requires.1, ap (λ (k : ℕ). k * f.slen) l),
        λ i h.
            let within : i < f.n = omega arith in
            rw (get_or-take f.n a.deviations.now i 0 within) (s.fitting i (omega (arith, get_D_ones f.n i))),
      ),
    )

pub returns : goal.returns
returns c =
    let a = c.args in
    let f = a.f in
    let first = first_spelled f.slen f.n a.deviations.now c.requires.0.enough in
    c.put_words.ensures ∙ ap (put a.out.now a.place) (first ∙ sym (deviations_all f a.deviations.now (λ z. omega (arith, c.if-f-eq0.false))))
