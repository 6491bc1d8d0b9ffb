-- The first control byte of Mode 2 is judged.
use Rattle.std.proofs.Common.{refl, sym, subst, get_or, arith}
use Rattle.verdict.specs.declared.Verdict.{Verdict}
use Rattle.matrix.specs.Header.{first, second}
use Rattle.matrix.specs.Table.{control1_rows}
use Rattle.matrix.proofs.Header.{header_least}
use Rattle.matrixhead.specs.Parts.{HeadFrom}
use Rattle.matrixhead.proofs.Judging.{at_kept, at_broken}
use Rattle.matrixhead.proofs.Heading.{control1_broken, control1_next, control1_lawful}
use Rattle.matrixhead.proofs.header.from_first.Goals as goal

pub from_control2-requires : goal.from_control2-requires
from_control2-requires c =
    let a = c.args in
    let f = first a.size.n a.c in
    let is = c.first_of-f.ensures in
    let kept = at_kept (control1_rows f a.c) c.judge_control1.result 1 (rw is at c.judge_control1.ensures) c.in_ok-judged_at.field-0 c.in_ok-judged_at.ensures in
    rw is (refl, control1_lawful a.bytes.now f a.c a.size.lawful.0 a.size.lawful.1 kept)

pub returns : goal.returns
returns c =
    let a = c.args in
    let f = first a.size.n a.c in
    let is = c.first_of-f.ensures in
    let kept = at_kept (control1_rows f a.c) c.judge_control1.result 1 (rw is at c.judge_control1.ensures) c.in_ok-judged_at.field-0 c.in_ok-judged_at.ensures in
    subst (λ (v : Verdict). HeadFrom v (second f (get_or a.bytes.now 2 0)) a.bytes.now c.from_control2.result)
    (sym (control1_next a.bytes.now f a.c kept))
    (rw is at c.from_control2.ensures)

pub returns-in_err-judged_at : goal.returns-in_err-judged_at
returns-in_err-judged_at c =
    let a = c.args in
    let f = first a.size.n a.c in
    let is = c.first_of-f.ensures in
    let broken = at_broken (control1_rows f a.c) c.judge_control1.result 1 (rw is at c.judge_control1.ensures) c.from_residual.result c.in_err-judged_at.field-0.0 c.in_err-judged_at.ensures c.from_residual.ensures.1 in
    rw broken.2 (control1_broken a.bytes.now f a.c broken.0 broken.1, omega (arith, header_least (second f (get_or a.bytes.now 2 0))))
