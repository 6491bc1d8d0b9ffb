-- By the greatest beginning of two bytes.
use Rattle.std.proofs.Common.{◌<◌, ◌∙◌, arith}
use borrow.Author.Tests.{ltb-true}
use Rattle.matrixwalk.proofs.Ruling.{sound_of}
use Rattle.matrixwalk.proofs.Passing.{two_room, sign_room, below_sign, twos_settle}
use Rattle.matrixwalk.proofs.Blocks.{twos_part}
use Rattle.matrixwalk.proofs.words.Words.settled_by_two.Goals as goal

pub two_of-mask-requires : goal.two_of-mask-requires
two_of-mask-requires c = (omega arith, sign_room c.args.self.ruled.rule (sound_of c.args.self.ruled) c.requires.0)

pub two_of-limit-requires : goal.two_of-limit-requires
two_of-limit-requires c = (omega arith, two_room c.args.self.ruled.rule (sound_of c.args.self.ruled) c.requires.0)

pub returns-in-Some : goal.returns-in-Some
returns-in-Some c = λ e.
    let a = c.args.self in
    let rule = a.ruled.rule in
    let sound = sound_of a.ruled in
    let most = c.in-Some.most in
    let below : most < c.two_of-limit.result = ltb-true most c.two_of-limit.result e in
    let under = twos_part a.bytes.now a.place a.until rule.length a.within c.two_of-mask.result most c.in-Some.ensures in
    twos_settle rule sound c.requires.0 a.bytes.now a.fit a.place a.until c.two_of-mask.result most a.within
    (c.two_of-mask.ensures ∙ below_sign rule sound c.requires.0 c.requires.1) (omega (arith, c.two_of-limit.ensures)) a.forward under
