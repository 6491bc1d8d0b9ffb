-- The pack is put where it has room.
use Rattle.std.proofs.Common.{arith, length as count}
use Rattle.verdict.proofs.Deciding.{room_missing, room_enough}
use Rattle.matrix.specs.Spelling.{bytes_of}
use Rattle.matrixcheck.specs.Given.{meaning_given}
use Rattle.matrixwriter.proofs.Parts.{given_length, sent_most}
use Rattle.matrixwriter.proofs.put.write_given.Goals as goal

pub length_of-length-requires : goal.length_of-length-requires
length_of-length-requires c =
    let a = c.args in
    (c.requires.lawful.fields, omega (arith, c.requires.counted, sent_most a.f a.deviations.now a.coefficients.now a.marks.now c.requires.enough c.requires.lawful))

pub returns-then-out-length : goal.returns-then-out-length
returns-then-out-length c =
    let a = c.args in
    let counted = given_length a.f a.deviations.now a.coefficients.now a.marks.now a.sent c.length_of-length.result c.requires.counted c.length_of-length.ensures in
    rw c.at.ensures (room_missing (bytes_of (meaning_given a.f a.deviations.now a.coefficients.now a.marks.now)) a.out.now 0 (count a.out.now) (omega (arith, counted, c.if-out-length.true)))

pub put_given-requires : goal.put_given-requires
put_given-requires c =
    let a = c.args in
    let counted = given_length a.f a.deviations.now a.coefficients.now a.marks.now a.sent c.length_of-length.result c.requires.counted c.length_of-length.ensures in
    (c.requires.enough, (c.requires.lawful, omega (arith, counted, c.if-out-length.false)))

pub returns : goal.returns
returns c =
    let a = c.args in
    let counted = given_length a.f a.deviations.now a.coefficients.now a.marks.now a.sent c.length_of-length.result c.requires.counted c.length_of-length.ensures in
    room_enough (bytes_of (meaning_given a.f a.deviations.now a.coefficients.now a.marks.now)) a.out.now 0 (count a.out.now) c.length_of-length.result c.put_given.new.out (omega (arith, counted, c.if-out-length.false)) counted c.put_given.ensures
