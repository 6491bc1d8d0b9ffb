-- A one shifted to its place is half of all words.
use Rattle.std.proofs.Common.{ℕ, ap, arith}
use borrow.Author.Tests.{le-leb}
use Rattle.std.specs.Prelude.{Ok}
use Rattle.word.proofs.Digits.{one_shifted}
use Rattle.rule.proofs.rules.mapped_rule.Goals as goal

pub returns-else-length-eq0 : goal.returns-else-length-eq0
returns-else-length-eq0 c =
    let n = c.args.length in
    simp (le-leb n 8 (omega arith))
    (ap (λ (greatest : ℕ). Ok (record { length = n; sign = 0; greatest = greatest })) (one_shifted n 1 (omega arith) (omega arith) (omega arith)))
