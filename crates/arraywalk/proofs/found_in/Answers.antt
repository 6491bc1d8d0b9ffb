-- NDim is drawn at the start, or the bytes are cut or refused in it.
use Rattle.std.specs.Prelude.{Err}
use Rattle.verdict.specs.declared.Stop.TheVariants.{Unfinished, Refused}
use Rattle.arraywalk.proofs.Walking.{dims_drawn, dims_cut, dims_refused, walked_one}
use Rattle.arraywalk.proofs.found_in.Goals as goal

pub from_sizes-requires : goal.from_sizes-requires
from_sizes-requires c = dims_drawn c.args.bytes.now (λ i. (c.type_inv.bytes i).fits) c.in-Ok.dims.value c.in-Ok.dims.next c.in-Ok.ensures

pub returns-in-Err-Cut : goal.returns-in-Err-Cut
returns-in-Err-Cut c =
    let s = c.args.bytes.now in
    walked_one s (Err (Unfinished 4)) (dims_cut s (λ i. (c.type_inv.bytes i).fits) _ (rw c.in-Err-Cut.field-0-is at c.in-Err-Cut.ensures))

pub returns-in-Err-Refused : goal.returns-in-Err-Refused
returns-in-Err-Refused c =
    let s = c.args.bytes.now in
    walked_one s (Err (Refused c.in-Err-Refused.refusal)) (dims_refused s (λ i. (c.type_inv.bytes i).fits) c.in-Err-Refused.refusal (rw c.in-Err-Refused.field-0-is at c.in-Err-Refused.ensures))
