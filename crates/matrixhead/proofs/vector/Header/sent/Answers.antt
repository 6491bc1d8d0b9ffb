-- Without a bit vector none is sent, or each.
use Rattle.std.proofs.Common.{◌∙◌}
use Rattle.counts.proofs.Counts.{pairs_counted}
use Rattle.matrixhead.proofs.Sending.{all_none, all_each, all_sent}
use Rattle.matrixhead.proofs.vector.Header.sent.Goals as goal

pub returns-then-self-eq0 : goal.returns-then-self-eq0
returns-then-self-eq0 c =
    let a = c.args.self in
    all_sent a.fields a.bytes.now 0 a.lawful c.if-self.false a.within (all_none a.fields c.if-self-eq0.true)

pub returns : goal.returns
returns c =
    let a = c.args.self in
    let f = a.fields in
    all_sent f a.bytes.now c.pairs_of.result a.lawful c.if-self.false a.within (pairs_counted f.n c.pairs_of.result a.lawful.first.size_most c.pairs_of.ensures ∙ all_each f c.if-self-eq0.false)
