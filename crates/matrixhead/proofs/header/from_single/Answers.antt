-- Of the one control byte of Mode 1 the fields are judged.
use Rattle.std.proofs.Common.{refl, arith}
use Rattle.matrix.specs.Header.{single}
use Rattle.matrix.specs.Table.{single_rows}
use Rattle.matrix.proofs.Header.{header_least}
use Rattle.matrixhead.proofs.Judging.{at_kept, at_broken}
use Rattle.matrixhead.proofs.Heading.{single_broken, single_headed}
use Rattle.matrixhead.proofs.header.from_single.Goals as goal

pub returns : goal.returns
returns c =
    let a = c.args in
    let f = single a.told a.size.n a.c in
    let is = c.single_of-f.ensures in
    let kept = at_kept (single_rows f) c.judge_single.result 1 (rw is at c.judge_single.ensures) c.in_ok-judged_at.field-0 c.in_ok-judged_at.ensures in
    rw is (single_headed a.bytes.now f c.requires refl a.size.lawful.0 a.size.lawful.1 kept)

pub returns-in_err-judged_at : goal.returns-in_err-judged_at
returns-in_err-judged_at c =
    let a = c.args in
    let f = single a.told a.size.n a.c in
    let is = c.single_of-f.ensures in
    let broken = at_broken (single_rows f) c.judge_single.result 1 (rw is at c.judge_single.ensures) c.from_residual.result c.in_err-judged_at.field-0.0 c.in_err-judged_at.ensures c.from_residual.ensures.1 in
    rw broken.2 (single_broken a.bytes.now f c.requires refl broken.0 broken.1, omega (arith, header_least f))
