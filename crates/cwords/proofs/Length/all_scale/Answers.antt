-- Words scale where all their bits together do.
use Rattle.std.proofs.Common.{suc, ◌/◌, ◌^◌, ◌∙◌, sym, arith}
use borrow.Author.Tests.{ltb-true}
use Rattle.word.proofs.Gathered.{all_below_lem, gathered_most}
use Rattle.cwords.proofs.Length.all_scale.Goals as goal

pub returns-then-scales : goal.returns-then-scales
returns-then-scales c =
    let a = c.args in
    let below = ltb-true c.gather.result (suc (256 ^ a.self.bytes / 2)) (sym c.scales.ensures ∙ c.if-scales.true) in
    sym (all_below_lem (suc (256 ^ a.self.bytes / 2)) a.words.now (λ i h. omega (arith, below, c.gather.ensures, gathered_most a.words.now i)))
