-- What breaks the rule from here on is what breaks it from the start, and past `until` nothing does.
use Rattle.std.proofs.Common.{◌-◌}
use Rattle.matrixwalk.proofs.Passing.{Carries}
use Rattle.matrixwalk.proofs.words.Words.check_each.Given as goal

abbrev pub invariant-loop-at : goal.invariant-loop-at
invariant-loop-at l = Carries l.self.bytes.now l.self.place l.self.until l.self.ruled.rule l.at

abbrev pub decreases-loop-at : goal.decreases-loop-at
decreases-loop-at l = l.self.until - l.at
