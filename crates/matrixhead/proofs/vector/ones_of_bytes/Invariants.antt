-- The ones of the bytes passed.
use Rattle.std.proofs.Common.{◌≡◌, take}
use Rattle.matrix.specs.Meaning.{sum}
use Rattle.matrix.specs.Header.{bits}
use Rattle.matrixhead.proofs.vector.ones_of_bytes.Given as goal

abbrev pub invariant-loop-byte : goal.invariant-loop-byte
invariant-loop-byte l = l.ones ≡ sum (bits (take l.byte-index l.bytes))
