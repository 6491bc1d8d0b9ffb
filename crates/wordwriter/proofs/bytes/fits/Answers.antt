-- A word of eight bytes fits in eight and in more; in fewer, where a shift by their bits leaves nothing.
use Rattle.std.proofs.Common.{◌*◌, ◌^◌, ◌∙◌, sym, arith}
use borrow.Author.Tests.{lt-ltb, le-leb}
use lib.Pow.{pow_pos}
use Rattle.word.proofs.Digits.{bytes_bits, shifted_out}
use Rattle.wordwriter.proofs.Fitting.{eight_fit}
use Rattle.wordwriter.proofs.bytes.fits.Goals as goal

pub returns-then-length-ge8 : goal.returns-then-length-ge8
returns-then-length-ge8 c = le-leb 8 c.args.length (omega arith) ∙ sym (lt-ltb _ _ (eight_fit c.args.length c.args.word (omega arith) c.ranges.word.fits))

pub returns-else-length-ge8 : goal.returns-else-length-ge8
returns-else-length-ge8 c = rw bytes_bits (shifted_out c.args.word (2 ^ (8 * c.args.length)) (pow_pos (8 * c.args.length)))
