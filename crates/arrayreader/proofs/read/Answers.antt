-- NDim, E, the start and the length that were found and the sizes that were drawn again are those of the bytes' meaning.
use Rattle.arrayreader.proofs.Answers.{sizes_found}
use Rattle.arrayreader.proofs.read.Goals as goal

pub draw_again-sizes-requires : goal.draw_again-sizes-requires
draw_again-sizes-requires c = sizes_found c.args.bytes.now (λ i. (c.type_inv.bytes i).fits) c.in_ok-found.found c.in_ok-found.ensures
