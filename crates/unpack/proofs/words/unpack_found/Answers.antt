-- All lists are filled where there is room in all three.
use Rattle.std.proofs.Common.{◌≡◌, ◌≤◌, length, arith}
use borrow.Author.Tests.{le-ltb}
use Rattle.matrix.specs.Meaning.{pairs}
use Rattle.verdict.proofs.Lent.{over_same}
use Rattle.counts.proofs.Counts.{pairs_counted}
use Rattle.unpack.proofs.Filling.{small, deviations_here}
use Rattle.unpack.proofs.Answers.{unpacked_whole}
use Rattle.unpack.proofs.words.unpack_found.Goals as goal

pub returns-then-pack : goal.returns-then-pack
returns-then-pack c =
    let a = c.args in
    let bytes = a.pack.bytes.now in
    let count : c.pairs_of-count.result ≡ pairs a.pack.found.fields.n = pairs_counted a.pack.found.fields.n c.pairs_of-count.result (small bytes a.pack.found a.pack.whole).size_most c.pairs_of-count.ensures in
    let all : a.pack.found.fields.n ≤ length a.deviations.now = omega arith in
    let enough : pairs a.pack.found.fields.n ≤ length a.coefficients.now = omega arith in
    let marked : pairs a.pack.found.fields.n ≤ length a.marks.now = omega arith in
    unpacked_whole bytes a.pack.found a.deviations.now a.coefficients.now a.marks.now c.fill_words.new.out c.sent_by_length.new.coefficients c.sent_by_length.new.marks
    (simp (le-ltb _ _ all, le-ltb _ _ enough, le-ltb _ _ marked))
    (over_same _ _ a.deviations.now c.fill_words.new.out c.fill_words.ensures (deviations_here bytes a.pack.found a.pack.whole))
    c.sent_by_length.ensures.0 c.sent_by_length.ensures.1

pub returns-else-pack : goal.returns-else-pack
returns-else-pack c =
    let a = c.args in
    let bytes = a.pack.bytes.now in
    let count : c.pairs_of-count.result ≡ pairs a.pack.found.fields.n = pairs_counted a.pack.found.fields.n c.pairs_of-count.result (small bytes a.pack.found a.pack.whole).size_most c.pairs_of-count.ensures in
    let all : a.pack.found.fields.n ≤ length a.deviations.now = omega arith in
    let enough : pairs a.pack.found.fields.n ≤ length a.coefficients.now = omega arith in
    let marked : pairs a.pack.found.fields.n ≤ length a.marks.now = omega arith in
    unpacked_whole bytes a.pack.found a.deviations.now a.coefficients.now a.marks.now c.fill_words.new.out c.fill_all.new.coefficients c.fill_all.new.marks
    (simp (le-ltb _ _ all, le-ltb _ _ enough, le-ltb _ _ marked))
    (over_same _ _ a.deviations.now c.fill_words.new.out c.fill_words.ensures (deviations_here bytes a.pack.found a.pack.whole))
    c.fill_all.ensures.0 c.fill_all.ensures.1
