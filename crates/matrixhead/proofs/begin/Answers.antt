-- Behind a lawful header the values follow.
use Rattle.std.proofs.Common.{◌+◌, ◌∙◌, arith}
use Rattle.std.specs.Prelude.{Err}
use Rattle.counts.proofs.Counts.{vector_counted}
use Rattle.matrixhead.proofs.Beginning.{head_stops, sent_stops, values_begun, begun_one}
use Rattle.matrixhead.proofs.Judging.{passed_on}
use Rattle.matrixhead.proofs.begin.Goals as goal

pub returns : goal.returns
returns c =
    let a = c.args in
    let f = c.in_ok-fields.fields in
    let vector = vector_counted f c.vector_bytes.result c.in_ok-fields.ensures.lawful.first.size_most c.vector_bytes.ensures in
    let words = c.header_bytes.result + c.vector_bytes.result in
    begun_one a.told a.bytes.now _ (values_begun a.told a.bytes.now f c.in_ok-fields.ensures words c.in_ok-sent.sent (omega (arith, vector, c.header_bytes.ensures)) c.in_ok-sent.ensures)

pub returns-in_err-fields : goal.returns-in_err-fields
returns-in_err-fields c =
    let a = c.args in
    let stop = c.in_err-fields.field-0.0 in
    passed_on c.from_residual.result stop c.from_residual.ensures.1 ∙ begun_one a.told a.bytes.now (Err stop) (head_stops a.told a.bytes.now stop c.in_err-fields.ensures)

pub returns-in_err-sent : goal.returns-in_err-sent
returns-in_err-sent c =
    let a = c.args in
    let stop = c.in_err-sent.field-0.0 in
    passed_on c.from_residual-in_err-sent.result stop c.from_residual-in_err-sent.ensures.1 ∙ begun_one a.told a.bytes.now (Err stop) (sent_stops a.told a.bytes.now c.in_ok-fields.fields c.in_ok-fields.ensures stop c.in_err-sent.ensures)
