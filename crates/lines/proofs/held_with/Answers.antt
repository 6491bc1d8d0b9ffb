-- None more leave the count; with others it stops one past the longest line.
use Rattle.std.proofs.Common.{arith, rules}
use Rattle.lines.specs.Taking.{held_all}
use Rattle.lines.proofs.Keeping.{held_all_lem}
use Rattle.lines.proofs.held_with.Goals as goal

pub returns-then-count-eq0 : goal.returns-then-count-eq0
unfolding held_all
returns-then-count-eq0 c = search rules

pub returns : goal.returns
returns c = omega (arith, held_all_lem c.args.held c.args.count c.if-count-eq0.false)
