-- A control byte of Mode 1, where it is let in.
use Rattle.std.proofs.Common.{sym, subst₂, get_or, arith}
use Rattle.verdict.specs.declared.Verdict.{Verdict}
use Rattle.matrix.specs.declared.Fields.{Fields}
use Rattle.matrix.specs.Header.{fields_in}
use Rattle.matrix.proofs.ControlBytes.{mode_one}
use Rattle.matrix.proofs.Header.{header_least}
use Rattle.matrixhead.specs.Parts.{HeadFrom}
use Rattle.matrixhead.proofs.Heading.{single_step, single_fields, low_refused}
use Rattle.matrixhead.proofs.header.from_low.Goals as goal

pub returns-then-told : goal.returns-then-told
returns-then-told c =
    let a = c.args in
    let b = a.bytes.now in
    let one = mode_one a.told a.c c.if-told.true c.requires.2 in
    subst₂ (λ (v : Verdict) (f : Fields). HeadFrom v f b c.from_single.result)
    (sym (single_step a.told b a.size.n a.c (omega arith) c.requires.1 one))
    (single_fields a.told b a.size.n a.c (omega arith) c.requires.1 (get_or b 2 0) one)
    c.from_single.ensures

pub returns : goal.returns
returns c =
    let a = c.args in
    let b = a.bytes.now in
    rw c.at.ensures (
      low_refused a.told b a.size.n a.c (omega arith) c.requires.1 c.if-told.false c.requires.2,
      omega (arith, header_least (fields_in a.told a.size.n (get_or b 1 0) (get_or b 2 0))),
    )
