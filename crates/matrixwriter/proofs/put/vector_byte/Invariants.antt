-- The value of the bits so far.
use Rattle.std.proofs.Common.{◌≡◌, take}
use Rattle.word.specs.Digits.{value_of}
use Rattle.matrixwriter.proofs.Spelled.{bits_from}
use Rattle.matrixwriter.proofs.put.vector_byte.Given as goal

abbrev pub invariant-loop-i : goal.invariant-loop-i
invariant-loop-i l = l.value ≡ value_of 2 (take l.i (bits_from l.marks l.pair))
