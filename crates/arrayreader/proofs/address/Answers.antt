-- The offset in the meaning of the pack that was found.
use Rattle.std.proofs.Common.{ap}
use Rattle.arraywalk.specs.declared.Found.{Found}
use Rattle.arraywalk.proofs.Finding.{found_is}
use Rattle.arrayreader.proofs.Answers.{sizes_found}
use Rattle.arrayreader.proofs.address.Goals as goal

pub address_in-requires : goal.address_in-requires
address_in-requires c =
    let s = c.args.bytes.now in
    let w = c.in_ok-found in
    (sizes_found s (λ i. (c.type_inv.bytes i).fits) w.found w.ensures, ap (λ (f : Found). f.element) (found_is s w.found w.ensures))
