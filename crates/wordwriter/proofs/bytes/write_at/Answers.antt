-- Each answer is the one of its tests, and a refusal leaves the bytes.
use Rattle.std.proofs.Common.{◌-◌, ◌^◌, ◌<◌, ◌≤◌, ◌∙◌, length as count, sym, arith}
use borrow.Author.Tests.{ltb-true, ltb-false}
use Rattle.word.proofs.Filled.{length_refused, range_refused, room_refused, stored_left}
use Rattle.wordwriter.proofs.bytes.write_at.Goals as goal

pub returns-then-length-gt8 : goal.returns-then-length-gt8
returns-then-length-gt8 c = let a = c.args in rw c.at.ensures (length_refused a.out.now a.place a.length a.word (omega arith))

pub returns-then-not-fits : goal.returns-then-not-fits
returns-then-not-fits c =
    let a = c.args in
    let long : 256 ^ a.length ≤ a.word = ltb-false a.word (256 ^ a.length) (sym c.fits.ensures ∙ c.if-not-fits.true) in
    rw c.at-then-not-fits.ensures (range_refused a.out.now a.place a.length a.word (omega arith) long)

pub returns-then-from_place-length : goal.returns-then-from_place-length
returns-then-from_place-length c =
    let a = c.args in
    let fit : a.word < 256 ^ a.length = ltb-true a.word (256 ^ a.length) (sym c.fits.ensures ∙ c.if-not-fits.false) in
    let missing : count a.out.now - a.place < a.length = omega arith in
    rw c.at-then-from_place-length.ensures (room_refused a.out.now a.place a.length a.word (omega arith) fit missing)

pub returns : goal.returns
returns c =
    let a = c.args in
    let fit : a.word < 256 ^ a.length = ltb-true a.word (256 ^ a.length) (sym c.fits.ensures ∙ c.if-not-fits.false) in
    let room : a.length ≤ count a.out.now - a.place = omega arith in
    stored_left a.out.now a.place a.length a.word c.put_at.new.out (omega arith) fit room c.put_at.ensures
