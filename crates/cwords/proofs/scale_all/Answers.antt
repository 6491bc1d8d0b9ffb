-- Each answer is that of the first broken rule.
use Rattle.std.proofs.Common.{not, ap, arith}
use Rattle.cwords.proofs.Answers.{length_refused, word_refused, room_refused, all_scaled}
use Rattle.cwords.proofs.scale_all.Goals as goal

pub returns-then-length : goal.returns-then-length
returns-then-length c = let a = c.args in rw c.at.ensures (length_refused a.words.now a.length a.scaled.now c.if-length.true)

pub returns-then-not-all_scale : goal.returns-then-not-all_scale
returns-then-not-all_scale c =
    let a = c.args in
    rw c.at-then-not-all_scale.ensures (word_refused a.words.now a.length a.scaled.now c.if-length.false c.all_scale.result c.all_scale.ensures (ap not c.if-not-all_scale.true))

pub returns-then-scaled-words : goal.returns-then-scaled-words
returns-then-scaled-words c =
    let a = c.args in
    rw c.at-then-scaled-words.ensures (room_refused a.words.now a.length a.scaled.now c.if-length.false c.all_scale.result c.all_scale.ensures (ap not c.if-not-all_scale.false) c.if-scaled-words.true)

pub returns : goal.returns
returns c =
    let a = c.args in
    all_scaled a.words.now a.length a.scaled.now c.if-length.false c.all_scale.result c.all_scale.ensures (ap not c.if-not-all_scale.false) (omega arith) _ c.scale_each.ensures
