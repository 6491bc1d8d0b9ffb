-- The ones of the bytes passed, with those of the byte here.
use Rattle.std.proofs.Common.{◌+◌, refl, arith}
use lib.Seq.{take_all}
use Rattle.matrix.specs.Meaning.{sum as sum_of}
use Rattle.matrix.specs.Header.{bits}
use Rattle.matrix.proofs.Ones.{ones_most}
use Rattle.matrixhead.proofs.Ones.{byte_ones}
use Rattle.matrixhead.proofs.vector.ones_of_bytes.Goals as goal

pub loop-byte-init : goal.loop-byte-init
unfolding sum_of bits
loop-byte-init c = refl

pub overflow_add-ones : goal.overflow_add-ones
overflow_add-ones c =
    let l = c.loop-byte in
    let more = byte_ones c.args.bytes.now l.byte-index l.ones (c.type_inv.bytes l.byte-index).fits (omega arith) l.invariant in
    record { fits = omega (arith, more, ones_most (l.byte-index + 1) c.args.bytes.now) }

pub loop-byte-preserved : goal.loop-byte-preserved
loop-byte-preserved c =
    let l = c.loop-byte in
    byte_ones c.args.bytes.now l.byte-index l.ones (c.type_inv.bytes l.byte-index).fits (omega arith) l.invariant

pub returns : goal.returns
returns c =
    let whole = take_all c.loop-byte.byte-index c.args.bytes.now c.loop-byte-test.false in
    rw whole at c.loop-byte.invariant
