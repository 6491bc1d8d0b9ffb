-- The next byte against its limit's: above it breaks the rule, below it settles the word, else the word goes on.
use Rattle.std.proofs.Common.{arith}
use Rattle.matrixwalk.proofs.Passing.{tight_start, tight_over, tight_below, tight_equal, tight_end}
use Rattle.matrixwalk.proofs.words.tight_word.Goals as goal

pub loop-i-init : goal.loop-i-init
loop-i-init c =
    let a = c.args in
    tight_start a.bytes.now a.at a.until a.ruled.rule c.requires.0 c.requires.1

pub returns-then-limit-b : goal.returns-then-limit-b
returns-then-limit-b c =
    let a = c.args in
    let l = c.loop-i in
    tight_over a.bytes.now a.at a.until a.ruled.rule c.requires.0 l.i c.limit_at-limit.result c.byte_at-b.result
    (omega arith) l.invariant c.limit_at-limit.ensures c.byte_at-b.ensures.0 c.if-limit-b.true

pub returns-then-b-limit : goal.returns-then-b-limit
returns-then-b-limit c =
    let a = c.args in
    let l = c.loop-i in
    tight_below a.bytes.now a.at a.until a.ruled.rule c.requires.0 l.i c.limit_at-limit.result c.byte_at-b.result
    (omega arith) l.invariant c.limit_at-limit.ensures c.byte_at-b.ensures.0 (λ i. (c.type_inv.bytes i).fits) c.if-b-limit.true

pub loop-i-preserved : goal.loop-i-preserved
loop-i-preserved c =
    let a = c.args in
    let l = c.loop-i in
    tight_equal a.bytes.now a.at a.until a.ruled.rule c.requires.0 l.i c.limit_at-limit.result c.byte_at-b.result
    (omega arith) l.invariant c.limit_at-limit.ensures c.byte_at-b.ensures.0 c.if-b-limit.false c.if-limit-b.false

pub returns : goal.returns
returns c =
    let a = c.args in
    tight_end a.bytes.now a.at a.until a.ruled.rule c.requires.0 c.loop-i.i (omega arith) c.loop-i.invariant
