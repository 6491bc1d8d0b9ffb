-- Processing is one octet, which is 1, missing or refused.
use Rattle.std.proofs.Common.{◌*◌}
use Rattle.arraywalk.proofs.Walking.{processing_cut, processing_one, processing_refused}
use Rattle.arraywalk.proofs.past_processing.Goals as goal

pub returns-then-bytes-place : goal.returns-then-bytes-place
returns-then-bytes-place c =
    let a = c.args in
    processing_cut a.bytes.now a.sized a.element.value a.element.next c.requires c.if-bytes-place.true

pub returns-then-octet-eq1 : goal.returns-then-octet-eq1
returns-then-octet-eq1 c =
    let a = c.args in
    processing_one a.bytes.now a.sized a.element.value a.element.next c.requires c.if-bytes-place.false c.if-octet-eq1.true

pub returns : goal.returns
returns c =
    let a = c.args in
    rw c.at.ensures (processing_refused a.bytes.now a.sized a.element.value a.element.next c.requires c.if-bytes-place.false c.processing_reason.result (c.processing_reason.ensures c.if-octet-eq1.false (a.sized.product * a.element.value)))
