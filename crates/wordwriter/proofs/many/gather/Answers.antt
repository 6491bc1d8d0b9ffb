-- The bits of the words so far are gathered, and those of the next.
use Rattle.std.proofs.Common.{ℕ, ◌∙◌, sym, ap, get_or}
use Rattle.std.specs.Int.Bits.{bit_or}
use Rattle.word.proofs.Gathered.{gathered_none, gathered_more}
use Rattle.wordwriter.proofs.many.gather.Goals as goal

pub loop-word-init : goal.loop-word-init
loop-word-init c = sym gathered_none

pub loop-word-preserved : goal.loop-word-preserved
loop-word-preserved c =
    let l = c.loop-word in
    let words = c.args.words.now in
    ap (λ (x : ℕ). bit_or x (get_or words l.word-index 0)) l.invariant ∙ sym (gathered_more words l.word-index c.loop-word-test.true)
