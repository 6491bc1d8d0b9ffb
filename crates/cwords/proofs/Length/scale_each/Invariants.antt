-- The first `i` words are scaled over the list.
use Rattle.std.proofs.Common.{◌≡◌}
use Rattle.verdict.specs.Filling.{over_first}
use Rattle.cwords.specs.Scaling.{scaled_all}
use Rattle.cwords.proofs.Length.scale_each.Given as goal

abbrev pub invariant-loop-i : goal.invariant-loop-i
invariant-loop-i l = l.scaled ≡ over_first l.i (scaled_all l.self.bytes l.words) l.initial.scaled
