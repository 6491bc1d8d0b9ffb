-- The word at the loop's place scales, and its value is put.
use Rattle.std.proofs.Common.{suc, ◌/◌, ◌^◌, ◌≤◌, ◌∙◌, sym, arith, get_or}
use lib.ListN.{length-map, get_or-map}
use Rattle.verdict.proofs.Lent.{filled_more}
use Rattle.word.proofs.Gathered.{below_at}
use Rattle.cwords.specs.Scaling.{less, scaled_all}
use Rattle.cwords.proofs.Scaling.{value_kept}
use Rattle.cwords.proofs.Length.scale_each.Goals as goal

pub scaled_of-requires : goal.scaled_of-requires
scaled_of-requires c =
    omega (arith, below_at (suc (256 ^ c.args.self.bytes / 2)) c.args.words.now c.requires.0 c.loop-i.i c.loop-i-test.true)

pub loop-i-preserved : goal.loop-i-preserved
loop-i-preserved c =
    let a = c.args in
    let l = c.loop-i in
    let h = c.loop-i-test.true in
    let fits : get_or a.words.now l.i 0 ≤ 256 ^ a.self.bytes / 2 = omega (arith, below_at (suc (256 ^ a.self.bytes / 2)) a.words.now c.requires.0 l.i h) in
    filled_more (scaled_all a.self.bytes a.words.now) a.scaled.now l.scaled l.i l.invariant (less a.self.bytes 0) _ (omega (arith, length-map a.words.now (less a.self.bytes))) (omega (arith, c.requires.1))
    (value_kept (get_or a.words.now l.i 0) a.self.bytes c.args.self.lawful.0 c.args.self.lawful.1 fits c.scaled_of.result c.scaled_of.ensures ∙ sym (get_or-map (less a.self.bytes) a.words.now l.i 0))
