-- Of mapped words a one shifted to its place.
use Rattle.std.proofs.Common.{arith}
use borrow.Author.Tests.{not-false}
use Rattle.word.proofs.Digits.{one_shifted}
use Rattle.unpack.proofs.words.nought_of.Goals as goal

pub returns : goal.returns
returns c = simp (not-false c.args.f.cf c.if-not-f.false) (one_shifted c.args.f.clen 2 (omega arith) (omega arith) (omega arith))
