-- The bytes have room.
use Rattle.std.proofs.Common.{arith}
use lib.ListN.{length-set}
use Rattle.matrix.proofs.Header.{header_one, header_two, header_least}
use Rattle.matrixwriter.proofs.Putting.{single_put, double_put}
use Rattle.matrixwriter.proofs.put.put_header.Goals as goal

pub bounds-out-0 : goal.bounds-out-0
bounds-out-0 c = omega (arith, c.requires.1, header_least c.args.f)

pub bounds-out-1 : goal.bounds-out-1
bounds-out-1 c = rw length-set (omega (arith, c.requires.1, header_one c.args.f c.if-f.true))

pub returns-then-f : goal.returns-then-f
returns-then-f c = single_put c.args.f c.args.out.now _ c.if-f.true (omega (arith, c.bit_of.ensures)) c.requires.1

pub bounds-out-1-2 : goal.bounds-out-1-2
bounds-out-1-2 c = rw length-set (omega (arith, c.requires.1, header_two c.args.f c.if-f.false))

pub bounds-out-2 : goal.bounds-out-2
bounds-out-2 c = rw (length-set, length-set) (omega (arith, c.requires.1, header_two c.args.f c.if-f.false))

pub returns : goal.returns
returns c =
    double_put c.args.f c.args.out.now _ _ c.if-f.false (omega (arith, c.bit_of-2.ensures, c.bit_of-3.ensures)) (omega (arith, c.bit_of-4.ensures)) c.requires.1
