-- Where no word begins at the limit's first byte or above, none breaks the rule.
use Rattle.std.proofs.Common.{◌≡◌, ◌∙◌, arith}
use Rattle.matrixwalk.proofs.Ruling.{sound_of}
use Rattle.matrixwalk.proofs.Blocks.{firsts_part}
use Rattle.matrixwalk.proofs.Passing.{limit_first, first_limit, firsts_settle}
use Rattle.matrixwalk.proofs.words.Words.settled_unsigned.Goals as goal

pub returns-then-words-lt-FEW : goal.returns-then-words-lt-FEW
returns-then-words-lt-FEW c = λ e.
    let a = c.args.self in
    let rule = a.ruled.rule in
    let limit : c.limit_at-limit.result ≡ limit_first rule = c.limit_at-limit.ensures ∙ first_limit rule (sound_of a.ruled) a.some in
    firsts_settle rule (sound_of a.ruled) a.some c.requires a.bytes.now a.fit a.place a.until c.limit_at-limit.result a.within (omega arith) a.forward
    (firsts_part a.bytes.now a.place a.until rule.length a.within c.limit_at-limit.result (c.all_below.ensures e))

pub returns : goal.returns
returns c = λ e.
    let a = c.args.self in
    let rule = a.ruled.rule in
    let limit : c.limit_at-limit.result ≡ limit_first rule = c.limit_at-limit.ensures ∙ first_limit rule (sound_of a.ruled) a.some in
    firsts_settle rule (sound_of a.ruled) a.some c.requires a.bytes.now a.fit a.place a.until c.limit_at-limit.result a.within (omega arith) a.forward
    (firsts_part a.bytes.now a.place a.until rule.length a.within c.limit_at-limit.result (c.many_below.ensures e))
