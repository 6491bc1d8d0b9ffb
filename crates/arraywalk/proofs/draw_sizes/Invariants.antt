-- The reader holds the lent bytes, and so many sizes stand before its place, with this product.
use Rattle.std.proofs.Common.{◌≡◌}
use Rattle.arraywalk.specs.Parts.{SizedTo}
use Rattle.arraywalk.proofs.draw_sizes.Given as goal

abbrev pub invariant-loop-count : goal.invariant-loop-count
invariant-loop-count l = record { held : l.numbers.bytes.now ≡ l.bytes; sizes : SizedTo l.bytes l.count (record { dims = l.all; place = l.numbers.place; product = l.product }) }
