-- Behind what begins a pack its words follow.
use Rattle.std.proofs.lemmas.Result.{err_from_is_err_and}
use Rattle.matrixhead.proofs.Beginning.{begun_from}
use Rattle.matrixwalk.proofs.Walking.{begun_words, walked_one, stopped_one, begun_stopped}
use Rattle.matrixwalk.proofs.found_in.Goals as goal

pub from_deviations-requires : goal.from_deviations-requires
from_deviations-requires c = begun_words c.args.told c.args.bytes.now _ _ _ (begun_from c.args.told c.args.bytes.now _ c.in_ok-begun.ensures)

pub returns : goal.returns
returns c =
    let a = c.args in
    walked_one a.told a.bytes.now _ _ _ (begun_from a.told a.bytes.now _ c.in_ok-begun.ensures) c.from_deviations.result c.from_deviations.ensures

pub returns-in_err-begun : goal.returns-in_err-begun
returns-in_err-begun c =
    let a = c.args in
    let p = err_from_is_err_and c.from_residual.result c.from_residual.ensures.1 in
    rw (p.1, p.2) (stopped_one a.told a.bytes.now c.in_err-begun.field-0.0 (begun_stopped a.told a.bytes.now _ (begun_from a.told a.bytes.now _ c.in_err-begun.ensures)))
