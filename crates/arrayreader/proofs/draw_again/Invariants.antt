-- The reader holds the lent bytes, so many sizes were drawn again, and they stand among the eight.
use Rattle.std.proofs.Common.{◌≡◌}
use Rattle.array.specs.Decoded.{meaning_of}
use Rattle.arrayreader.specs.Again.{SizesTo, Put}
use Rattle.arrayreader.proofs.draw_again.Given as goal

abbrev pub invariant-loop-count : goal.invariant-loop-count
invariant-loop-count l =
    record {
      held : l.numbers.bytes.now ≡ l.bytes;
      stands : SizesTo l.bytes l.dims l.count l.numbers.place;
      put : Put (meaning_of l.bytes).sizes l.count l.sizes;
    }
