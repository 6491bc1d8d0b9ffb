-- All words scale where each does.
use Rattle.std.proofs.Common.{rules, tests, ℕ, suc, ◌/◌, ◌^◌, ◌∙◌, ltb}
use Rattle.std.proofs.lemmas.Iterator.{YieldsList-from_slice}
use Rattle.std.proofs.lemmas.Iterator.Search.{all_from_yields_List}
use Rattle.cwords.proofs.Scaling.{all_below_each}
use Rattle.cwords.proofs.Length.each_scales.Goals as goal

pub returns : goal.returns
returns c =
    let limit = suc (256 ^ c.args.self.bytes / 2) in
    all_from_yields_List (λ (word : ℕ). ltb word limit) _ _ c.all.result c.all.ensures.ran (YieldsList-from_slice c.args.words.now cc) (λ x b q k. search (rules, tests)) ∙ all_below_each limit c.args.words.now
