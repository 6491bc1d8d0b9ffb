-- All the bits that the words have tell whether each fits.
use Rattle.std.proofs.Common.{◌^◌, ◌∙◌, sym, arith, get_or}
use borrow.Author.Tests.{le-leb}
use Rattle.word.proofs.Gathered.{gathered_fits, all_below_lem}
use Rattle.wordwriter.proofs.Fitting.{eight_fit}
use Rattle.wordwriter.proofs.many.all_fit.Goals as goal

pub returns-then-length-ge8 : goal.returns-then-length-ge8
returns-then-length-ge8 c =
    let a = c.args in
    le-leb 8 a.length (omega arith) ∙ sym (all_below_lem (256 ^ a.length) a.words.now (λ i h. eight_fit a.length (get_or a.words.now i 0) (omega arith) (omega (arith, c.type_inv.words i))))

pub returns-else-length-ge8 : goal.returns-else-length-ge8
returns-else-length-ge8 c = c.fits.ensures ∙ rw c.gather.ensures (gathered_fits c.args.length c.args.words.now)
