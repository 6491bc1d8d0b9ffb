-- Words of no bytes are passed at once.
use Rattle.matrixwalk.proofs.Passing.{pass_none}
use Rattle.matrixwalk.proofs.words.pass.Goals as goal

pub returns-then-ruled-eq0 : goal.returns-then-ruled-eq0
returns-then-ruled-eq0 c =
    let a = c.args in
    pass_none a.bytes.now a.place a.words a.ruled.rule a.after c.if-ruled-eq0.true c.requires.1
