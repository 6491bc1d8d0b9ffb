-- Where the words from here on begin below the limit, all do.
use Rattle.std.proofs.Common.{◌-◌, length}
use Rattle.matrixwalk.specs.Parts.{FirstsBelow}
use Rattle.matrixwalk.proofs.words.all_below.Given as goal

abbrev pub invariant-loop-at : goal.invariant-loop-at
invariant-loop-at l = FirstsBelow l.words l.at (length l.words) l.length l.limit → FirstsBelow l.words 0 (length l.words) l.length l.limit

abbrev pub decreases-loop-at : goal.decreases-loop-at
decreases-loop-at l = length l.words - l.at
