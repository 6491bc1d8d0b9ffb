-- The first control byte tells the mode.
use Rattle.std.proofs.Common.{◌≡◌, ◌/◌, ◌∙◌, sym, ap, subst₂, get_or, arith}
use Rattle.verdict.specs.declared.Verdict.{Verdict}
use Rattle.verdict.specs.declared.Verdict.TheVariants.{Unfinished}
use Rattle.verdict.proofs.Reaching.{reach_cut}
use Rattle.matrix.specs.declared.Fields.{Fields}
use Rattle.matrix.specs.Header.{fields_in}
use Rattle.matrix.specs.Machine.{control1, step, least}
use Rattle.matrix.proofs.ControlBytes.{mode_two}
use Rattle.matrix.proofs.Header.{header_least}
use Rattle.matrixhead.specs.Parts.{HeadFrom}
use Rattle.matrixhead.proofs.Heading.{first_step, first_fields}
use Rattle.matrixhead.proofs.header.from_control1.Goals as goal

pub returns-then-bytes-le1 : goal.returns-then-bytes-le1
returns-then-bytes-le1 c =
    let b = c.args.bytes.now in (
      reach_cut step least b (control1 c.args.told c.args.size.n) 1 (omega arith) ∙ ap Unfinished (sym c.least_behind.ensures),
      omega (arith, header_least (fields_in c.args.told c.args.size.n (get_or b 1 0) (get_or b 2 0))),
    )

pub returns : goal.returns
returns c =
    let a = c.args in
    let b = a.bytes.now in
    let byte = c.byte_at-c.result in
    let top : byte / 128 ≡ 1 = omega (arith, c.byte_at-c.ensures.1, c.if-c-eq0.false) in
    let two = mode_two a.told byte top in
    subst₂ (λ (v : Verdict) (f : Fields). HeadFrom v f b c.from_first.result)
    (sym (first_step a.told b a.size.n byte (omega arith) c.byte_at-c.ensures.0 two))
    (first_fields a.told b a.size.n byte (omega arith) c.byte_at-c.ensures.0 (get_or b 2 0) two)
    c.from_first.ensures
