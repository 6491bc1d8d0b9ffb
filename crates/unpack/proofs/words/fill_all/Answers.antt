-- The words stand one after the other, and each has the same mark.
use Rattle.std.proofs.Common.{◌≡◌}
use Rattle.matrix.specs.Meaning.{pairs}
use Rattle.verdict.proofs.Lent.{over_same}
use Rattle.counts.proofs.Counts.{pairs_counted}
use Rattle.unpack.proofs.Filling.{small, marks_here, coefficients_here, coefficients_within}
use Rattle.unpack.proofs.words.fill_all.Goals as goal

pub fill_words-requires : goal.fill_words-requires
fill_words-requires c =
    let a = c.args in
    let bounds = small a.pack.bytes.now a.pack.found a.pack.whole in
    let e : c.pairs_of-number.result ≡ pairs a.pack.found.fields.n = pairs_counted a.pack.found.fields.n c.pairs_of-number.result bounds.size_most c.pairs_of-number.ensures in
    (bounds.clen_few, (rw e (coefficients_within a.pack.bytes.now a.pack.found a.pack.whole c.requires.2), rw e c.requires.0))

pub returns : goal.returns
returns c =
    let a = c.args in
    let bounds = small a.pack.bytes.now a.pack.found a.pack.whole in
    let number = c.pairs_of-number.result in
    let e : number ≡ pairs a.pack.found.fields.n = pairs_counted a.pack.found.fields.n number bounds.size_most c.pairs_of-number.ensures in (
      over_same _ _ a.coefficients.now c.fill_words.new.out c.fill_words.ensures (coefficients_here a.pack.bytes.now a.pack.found a.pack.whole c.requires.2 number e),
      over_same _ _ a.marks.now c.fill_marks.new.marks c.fill_marks.ensures (marks_here a.pack.bytes.now a.pack.found a.pack.whole c.requires.2 number e c.mark_of.result c.mark_of.ensures),
    )
