-- A word passed gives its ones.
use Rattle.std.proofs.Common.{◌≡◌, ◌+◌, ℕ, suc, [], drop, sym, ap, arith, drop-cons, add-one}
use lib.ListN.{drop_of_length-le}
use Rattle.matrixhead.specs.Parts.{ones_in}
use Rattle.matrixhead.proofs.vector.ones_of_words.Goals as goal

pub loop-word-preserved : goal.loop-word-preserved
loop-word-preserved c =
    let l = c.loop-word in
    let words = c.args.words.now in
    let cut : ones_in (drop l.word-index words) ≡ c.ones_of_word-ones.result + ones_in (drop (l.word-index + 1) words) =
    rw (drop-cons words l.word-index [] c.loop-word-test.true, add-one) (ap (λ (k : ℕ). k + ones_in (drop (suc l.word-index) words)) (sym c.ones_of_word-ones.ensures.value)) in
    (omega arith, omega (arith, cut, l.invariant.1))

pub returns : goal.returns
returns c =
    let l = c.loop-word in
    let words = c.args.words.now in
    let none : ones_in (drop l.word-index words) ≡ 0 = rw (drop_of_length-le words c.loop-word-test.false) in
    omega (arith, none, l.invariant.1)
