-- The ones of eight bytes are those of the number that they spell.
use Rattle.std.proofs.Common.{◌∙◌, ap, arith}
use lib.Count.{ones}
use Rattle.matrixhead.proofs.Ones.{word_ones, bits_most}
use Rattle.matrixhead.proofs.vector.ones_of_word.Goals as goal

pub returns : goal.returns
returns c =
    let e = ap ones c.from_be_bytes.ensures ∙ word_ones c.args.word.now c.fits-word c.told-word in
    record { value = e; bound = omega (arith, e, bits_most c.args.word.now, c.told-word) }
