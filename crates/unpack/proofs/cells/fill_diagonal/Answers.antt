-- The next cell of the diagonal, then all of them.
use Rattle.std.proofs.Common.{◌≡◌, ℕ, ◌+◌, ◌*◌, ◌≤◌, ◌∙◌, ap, subst, min, length as size, arith}
use Rattle.word.specs.Bytes.{word_at}
use Rattle.unpack.specs.Found.{meaning_found}
use Rattle.unpack.specs.Cells.{Grid, diagonal}
use Rattle.word.proofs.Whole.{part_word}
use Rattle.unpack.proofs.Filling.{small, deviation_within, deviation_is}
use Rattle.unpack.proofs.Rows.{grid_diagonal}
use Rattle.unpack.proofs.cells.fill_diagonal.Goals as goal

pub loop-i-preserved : goal.loop-i-preserved
loop-i-preserved c =
    let a = c.args in
    let bytes = a.pack.bytes.now in
    let l = c.loop-i in
    let at : l.place ≡ a.pack.found.words + l.i * a.pack.found.fields.slen = l.invariant.0 ∙ ap (λ (k : ℕ). a.pack.found.words + l.i * k) c.requires.0 in
    let within : l.place + a.length ≤ size bytes = omega (arith, at, c.requires.0, deviation_within bytes a.pack.found a.pack.whole l.i c.loop-i-test.true) in
    let short : a.length ≤ 8 = omega (arith, c.requires.0, (small bytes a.pack.found a.pack.whole).slen_few) in
    let word = deviation_is bytes a.pack.found a.pack.whole l.i l.place c.word_of.result c.loop-i-test.true at (c.word_of.ensures ∙ part_word bytes l.place a.length short within ∙ ap (word_at bytes l.place) c.requires.0) in
    let mark = c.mark_of-mark in (
      omega (arith, l.invariant.0),
      grid_diagonal (meaning_found bytes a.pack.found) c.requires.1 l.i c.word_of.result mark.result c.loop-i-test.true word (mark.ensures ∙ ap (min 1) c.requires.0) l.invariant.1,
    )

pub returns : goal.returns
returns c =
    let a = c.args in
    let l = c.loop-i in
    let all : l.i ≡ a.pack.found.fields.n = omega arith in
    subst (λ (k : ℕ). Grid (meaning_found a.pack.bytes.now a.pack.found) (diagonal k) a.words.now a.marks.now l.words l.marks) all l.invariant.1
