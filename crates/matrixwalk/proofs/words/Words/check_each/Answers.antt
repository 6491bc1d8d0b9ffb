-- What the next word breaks, the words from here on break.
use Rattle.std.proofs.Common.{◌≡◌, arith}
use Rattle.matrixwalk.specs.Parts.{Judges}
use Rattle.matrixwalk.proofs.Passing.{checks_over, carries_next, carries_all}
use Rattle.matrixwalk.proofs.words.Words.check_each.Goals as goal

pub returns-then-broken-self : goal.returns-then-broken-self
returns-then-broken-self c =
    let j = c.judge_word-broken in
    let l = c.loop-at in
    let a = c.args in
    l.invariant.0 (omega arith) j.result (checks_over a.self.ruled.rule (omega arith) a.self.bytes.now a.self.until l.at (omega arith) j.result c.if-broken-self.true j.ensures)

pub loop-at-preserved : goal.loop-at-preserved
loop-at-preserved c =
    let j = c.judge_word-broken in
    let l = c.loop-at in
    let a = c.args in
    let e : j.result ≡ a.self.until = omega (arith, j.ensures.within) in
    let k : Judges a.self.bytes.now l.at a.self.until a.self.ruled.rule a.self.until = rw e at j.ensures in
    carries_next a.self.ruled.rule (omega arith) a.self.bytes.now a.self.until a.self.place l.at l.invariant (omega arith) k

pub returns : goal.returns
returns c =
    let l = c.loop-at in
    let a = c.args in
    carries_all a.self.ruled.rule (omega arith) a.self.bytes.now a.self.until a.self.place l.at l.invariant (omega arith)
