-- The bits of the words so far are gathered.
use Rattle.std.proofs.Common.{◌≡◌, take}
use Rattle.word.specs.Many.{gathered}
use Rattle.wordwriter.proofs.many.gather.Given as goal

abbrev pub invariant-loop-word : goal.invariant-loop-word
invariant-loop-word l = l.all ≡ gathered (take l.word-index l.words)
