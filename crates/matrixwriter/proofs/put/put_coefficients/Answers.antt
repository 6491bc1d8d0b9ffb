-- Of a full matrix all are sent, or have no bytes.
use Rattle.std.proofs.Common.{arith}
use Rattle.matrixwriter.proofs.Putting.{full_put, full_room, full_none, full_fits}
use Rattle.matrixwriter.proofs.put.put_coefficients.Goals as goal

pub returns-then-length-eq0 : goal.returns-then-length-eq0
returns-then-length-eq0 c =
    let a = c.args in
    full_none a.length a.marks.now a.words.now (c.requires.1.1.1 c.if-sparse.false) a.out.now a.place c.if-length-eq0.true

pub put_words-requires : goal.put_words-requires
put_words-requires c =
    let a = c.args in
    let all = c.requires.1.1.1 c.if-sparse.false in
    let room = full_room a.length a.marks.now a.words.now all c.requires.1.0 in
    (c.requires.0.short, (omega (arith, c.requires.1.1.0, room), full_fits a.length a.marks.now a.words.now all c.requires.1.0 c.requires.0 c.if-length-eq0.false))

pub returns : goal.returns
returns c =
    let a = c.args in
    full_put a.length a.marks.now a.words.now (c.requires.1.1.1 c.if-sparse.false) c.requires.1.0 a.out.now c.put_words.new.out a.place c.put_words.ensures
