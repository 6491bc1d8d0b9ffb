-- The next coefficient and its mark.
use Rattle.std.proofs.Common.{◌≡◌, ◌<◌, ℕ, ◌*◌, refl, ◌∙◌, ap, arith}
use Rattle.matrix.specs.Meaning.{sum, pairs}
use Rattle.unpack.specs.Found.{meaning_found, coefficient_at}
use Rattle.verdict.proofs.Lent.{filled_more}
use Rattle.counts.proofs.Counts.{pairs_counted}
use Rattle.unpack.proofs.Filling.{small, coefficient_count, mark_count, coefficient_place_lem, coefficient_next, coefficient_within, coefficient_is}
use Rattle.unpack.proofs.words.fill_sent.Goals as goal

pub loop-pair-init : goal.loop-pair-init
unfolding sum
loop-pair-init c = (omega arith, refl, refl)

pub word_or-requires : goal.word_or-requires
word_or-requires c =
    let a = c.args in
    let l = c.loop-pair in
    let w = a.pack.whole in
    let bounds = small a.pack.bytes.now a.pack.found w in
    let count : c.pairs_of-count.result ≡ pairs a.pack.found.fields.n = pairs_counted a.pack.found.fields.n c.pairs_of-count.result bounds.size_most c.pairs_of-count.ensures in
    let at : l.place ≡ coefficient_at (meaning_found a.pack.bytes.now a.pack.found) a.pack.found l.pair = l.invariant.0 ∙ coefficient_place_lem a.pack.bytes.now a.pack.found w l.pair in (
      omega (arith, bounds.clen_few, c.requires.0),
      coefficient_within a.pack.bytes.now a.pack.found w l.pair l.place c.mark_at-mark.result (omega (arith, c.loop-pair-test.true, count)) at c.mark_at-mark.ensures a.length c.requires.0,
    )

pub overflow_add-place-in-loop-pair : goal.overflow_add-place-in-loop-pair
overflow_add-place-in-loop-pair c =
    let a = c.args in
    let l = c.loop-pair in
    let w = a.pack.whole in
    let bounds = small a.pack.bytes.now a.pack.found w in
    let count : c.pairs_of-count.result ≡ pairs a.pack.found.fields.n = pairs_counted a.pack.found.fields.n c.pairs_of-count.result bounds.size_most c.pairs_of-count.ensures in
    let at : l.place ≡ coefficient_at (meaning_found a.pack.bytes.now a.pack.found) a.pack.found l.pair = l.invariant.0 ∙ coefficient_place_lem a.pack.bytes.now a.pack.found w l.pair in
    record {
      fits = omega (arith, ap (λ (k : ℕ). k * a.length) c.from.ensures, coefficient_within a.pack.bytes.now a.pack.found w l.pair l.place c.mark_at-mark.result (omega (arith, c.loop-pair-test.true, count)) at c.mark_at-mark.ensures a.length c.requires.0);
    }

pub loop-pair-preserved : goal.loop-pair-preserved
loop-pair-preserved c =
    let a = c.args in
    let bytes = a.pack.bytes.now in
    let found = a.pack.found in
    let l = c.loop-pair in
    let p = c.requires in
    let w = a.pack.whole in
    let m = meaning_found bytes found in
    let mark = c.mark_at-mark in
    let none = c.nought_of-none in
    let bounds = small bytes found w in
    let count : c.pairs_of-count.result ≡ pairs found.fields.n = pairs_counted found.fields.n c.pairs_of-count.result bounds.size_most c.pairs_of-count.ensures in
    let b : l.pair < pairs found.fields.n = omega (arith, c.loop-pair-test.true, count) in
    let at : l.place ≡ coefficient_at m found l.pair = l.invariant.0 ∙ coefficient_place_lem bytes found w l.pair in
    let is = coefficient_is bytes found w l.pair l.place mark.result b at mark.ensures a.length p.0 none.result c.word_or.result none.ensures c.word_or.ensures in (
      omega (arith, l.invariant.0, coefficient_next bytes found w l.pair l.place mark.result b at mark.ensures a.length p.0, ap (λ (k : ℕ). k * a.length) c.from.ensures),
      filled_more m.coefficients a.coefficients.now l.coefficients l.pair l.invariant.1 0 c.word_or.result (omega (arith, b, coefficient_count bytes found w)) (omega (arith, b, p.1)) is,
      filled_more m.marks a.marks.now l.marks l.pair l.invariant.2 0 mark.result (omega (arith, b, mark_count bytes found w)) (omega (arith, b, p.2)) mark.ensures,
    )
