-- What came so far and what is still to come are what comes of the chunk, and behind what was taken LF stands, or the chunk ends.
use Rattle.std.proofs.Common.{◌≡◌, ◌-◌, ◌<◌, length, get_or}
use Rattle.report.specs.Passing.{Sofar}
use Rattle.report.proofs.feed.feed.Given as goal

abbrev pub invariant-loop-at : goal.invariant-loop-at
invariant-loop-at l = Sofar l.fn.state l.chunk l.fn.line l.fn.out l.at l.line l.out × (l.at.taken < length l.chunk → get_or l.chunk l.at.taken 0 ≡ 10)

abbrev pub decreases-loop-at : goal.decreases-loop-at
decreases-loop-at l = length l.chunk - l.at.taken
