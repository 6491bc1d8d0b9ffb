-- Where the words from here on are under some number, as those before them are, all are.
use Rattle.std.proofs.Common.{ℕ, ◌-◌, ◌+◌, ◌≤◌, length}
use Rattle.matrixwalk.specs.Parts.{TwosUnder}
use Rattle.matrixwalk.proofs.words.greatest_two.Given as goal

abbrev pub invariant-loop-at : goal.invariant-loop-at
invariant-loop-at g l =
    (l.at ≤ length l.words + 8)
    × ((most : ℕ) → l.most ≤ most → TwosUnder l.words l.at (length l.words) g.row.LENGTH l.mask most → TwosUnder l.words 0 (length l.words) g.row.LENGTH l.mask most)

abbrev pub decreases-loop-at : goal.decreases-loop-at
decreases-loop-at g l = length l.words - l.at
