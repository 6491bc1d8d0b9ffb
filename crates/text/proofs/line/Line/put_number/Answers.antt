-- The digits end where the text began.
use Rattle.std.proofs.Common.{refl, arith}
use lib.ListN.{drop, length-append, length-drop}
use Rattle.text.specs.Text.{decimal}
use Rattle.text.proofs.Decimals.{decimal_library, decimal_short}
use Rattle.text.proofs.line.Line.put_number.Goals as goal

pub write_digits-self-inside-requires : goal.write_digits-self-inside-requires
write_digits-self-inside-requires c =
    let few = rw (decimal_library c.args.n c.ranges.n.fits) at (decimal_short c.args.n c.ranges.n.fits) in
    let front = rw (← c.self.view_is, length-drop) at c.requires in
    omega (arith, few, front)

pub returns : goal.returns
returns c =
    let n = c.args.n in
    let behind = drop c.self.inside.start c.self.inside.bytes in
    rw (c.write_digits-self-inside.ensures.written, ← decimal_library n c.ranges.n.fits, ← c.self.view_is)
    (refl, omega (arith, length-append (decimal n) behind, decimal_short n c.ranges.n.fits))
