-- A length and its octets are few.
use Rattle.std.proofs.Common.{sym, subst, arith}
use Rattle.berlength.proofs.Lengths.{Few, length_few}
use Rattle.frame.proofs.examine.from_length.Goals as goal

pub overflow_add-length : goal.overflow_add-length
overflow_add-length c =
    let few = subst Few (sym c.in-Ok.ensures) (length_few c.args.bytes.now (λ i. (c.type_inv.bytes i).fits)) in
    record { fits = omega (arith, few) }
