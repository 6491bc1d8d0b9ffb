-- A size more is drawn again from where the reader stands, and put behind the others.
use Rattle.std.proofs.Common.{◌+◌, ap, ◌∙◌, arith}
use Rattle.array.specs.Decoded.{meaning_of}
use Rattle.number.specs.declared.Numbers.{Numbers}
use Rattle.arrayreader.specs.Again.{Put}
use Rattle.arrayreader.proofs.Answers.{again_number, again_behind, again_put, again_all}
use Rattle.arrayreader.proofs.draw_again.Goals as goal
use Rattle.arrayreader.proofs.draw_again.Goals.{in-Ok, in_default}

pub loop-count-preserved : goal.loop-count-preserved
loop-count-preserved c =
    let a = c.args in let l = c.loop-count in let i = l.invariant in let drew = c.draw-numbers in
    let put : Put (meaning_of a.bytes.now).sizes (l.count + 1) c.match-numbers.sizes =
    elim c.match-numbers.branch [
      | in-Ok w ↦ rw w.sizes-is (again_put a.bytes.now a.dims l.count l.numbers i.held l.sizes i.stands i.put c.loop-count-test.true drew.result drew.ensures w.in-Ok.size w.in-Ok.is)
      | in_default w ↦ absurd (w.in_default.not-Ok _ (again_number a.bytes.now a.dims l.count l.numbers i.held l.sizes i.stands i.put c.loop-count-test.true drew.result drew.ensures))
    ] in
    record {
      held = ap (λ (n : Numbers). n.bytes.now) drew.ensures ∙ i.held;
      stands = again_behind a.bytes.now a.dims l.count l.numbers i.held l.sizes i.stands i.put c.loop-count-test.true drew.result drew.ensures;
      put = put;
    }

pub returns : goal.returns
returns c = let l = c.loop-count in again_all c.args.bytes.now c.args.dims l.count l.numbers.place l.sizes l.invariant.stands l.invariant.put (omega arith)
