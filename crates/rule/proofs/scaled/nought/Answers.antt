-- A one shifted to its place.
use Rattle.std.proofs.Common.{arith}
use Rattle.word.proofs.Digits.{one_shifted}
use Rattle.rule.proofs.scaled.nought.Goals as goal

pub returns : goal.returns
returns c = one_shifted c.args.length 2 (omega arith) (omega arith) (omega arith)
