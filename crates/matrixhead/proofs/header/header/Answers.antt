-- The size is judged where it is there.
use Rattle.std.proofs.Common.{ℕ, ◌≡◌, ◌<◌, ◌∙◌, sym, ap, subst₂, length, get_or, arith}
use borrow.Author.Tests.{eqb-true, eqb-false}
use Rattle.matrix.specs.declared.Fields.{Fields}
use Rattle.matrix.specs.Header.{fields_in, fields_of}
use Rattle.matrix.proofs.ControlBytes.{size_kept}
use Rattle.matrix.proofs.Header.{header_least}
use Rattle.verdict.specs.declared.Verdict.{Verdict}
use Rattle.verdict.specs.declared.Verdict.TheVariants.{Unfinished}
use Rattle.verdict.proofs.Deciding.{judgement_kept}
use Rattle.verdict.proofs.Reaching.{reach_start, reach_cut}
use Rattle.matrix.specs.Table.{size_rows}
use Rattle.matrix.specs.Machine.{size, step, least}
use Rattle.matrixhead.proofs.Judging.{at_kept, at_broken}
use Rattle.matrixhead.specs.Parts.{HeadFrom}
use Rattle.matrixhead.proofs.Heading.{size_broken, size_next}
use Rattle.matrixhead.proofs.header.header.Goals as goal

pub returns-then-is_empty : goal.returns-then-is_empty
returns-then-is_empty c =
    let b = c.args.bytes.now in
    let t = c.args.told in
    let z : length b ≡ 0 = eqb-true (length b) 0 (sym c.if-is_empty.ensures) in (
      sym (reach_start step least b (size t)) ∙ reach_cut step least b (size t) 0 (omega arith) ∙ ap Unfinished (sym c.least_of_all.ensures),
      omega (arith, header_least (fields_of t b)),
    )

pub invariant_of-size : goal.invariant_of-size
invariant_of-size c =
    let n = c.byte_at-n.result in
    record { lawful = size_kept n (judgement_kept (size_rows n) (at_kept (size_rows n) c.judge_size.result 0 c.judge_size.ensures c.in_ok-judged_at.field-0 c.in_ok-judged_at.ensures)) }

pub returns : goal.returns
returns c =
    let b = c.args.bytes.now in
    let t = c.args.told in
    let n = c.byte_at-n.result in
    let here : 0 < length b = omega (arith, eqb-false (length b) 0 (sym c.if-is_empty.ensures)) in
    let kept = at_kept (size_rows n) c.judge_size.result 0 c.judge_size.ensures c.in_ok-judged_at.field-0 c.in_ok-judged_at.ensures in
    subst₂ (λ (v : Verdict) (f : Fields). HeadFrom v f b c.from_control1.result)
    (sym (size_next t b n here c.byte_at-n.ensures.0 kept))
    (ap (λ (n : ℕ). fields_in t n (get_or b 1 0) (get_or b 2 0)) c.byte_at-n.ensures.0)
    c.from_control1.ensures

pub returns-in_err-judged_at : goal.returns-in_err-judged_at
returns-in_err-judged_at c =
    let b = c.args.bytes.now in
    let t = c.args.told in
    let n = c.byte_at-n.result in
    let here : 0 < length b = omega (arith, eqb-false (length b) 0 (sym c.if-is_empty.ensures)) in
    let broken = at_broken (size_rows n) c.judge_size.result 0 c.judge_size.ensures c.from_residual.result c.in_err-judged_at.field-0.0 c.in_err-judged_at.ensures c.from_residual.ensures.1 in
    rw broken.2 (size_broken t b n here c.byte_at-n.ensures.0 broken.0 broken.1, omega (arith, header_least (fields_of t b)))
