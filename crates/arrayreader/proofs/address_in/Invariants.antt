-- So many indices of the offset are done.
use Rattle.array.specs.Decoded.{meaning_of}
use Rattle.array.proofs.Offsets.{Summed}
use Rattle.arrayreader.proofs.address_in.Given as goal

abbrev pub invariant-loop-i : goal.invariant-loop-i
invariant-loop-i l = Summed (meaning_of l.bytes).sizes l.indices l.i l.offset
