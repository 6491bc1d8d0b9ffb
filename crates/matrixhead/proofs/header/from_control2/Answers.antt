-- The second control byte is judged where it is there.
use Rattle.std.proofs.Common.{ℕ, ◌+◌, ◌∙◌, sym, ap, get_or, arith}
use Rattle.verdict.specs.declared.Verdict.TheVariants.{Unfinished}
use Rattle.verdict.proofs.Reaching.{reach_cut}
use Rattle.matrix.specs.Header.{second}
use Rattle.matrix.specs.Machine.{control2, step, least}
use Rattle.matrix.specs.Table.{control2_rows}
use Rattle.matrix.proofs.Header.{header_two}
use Rattle.matrixhead.proofs.Judging.{at_kept, at_broken}
use Rattle.matrixhead.proofs.Heading.{control2_broken, control2_headed}
use Rattle.matrixhead.proofs.header.from_control2.Goals as goal

pub returns-then-bytes-le2 : goal.returns-then-bytes-le2
returns-then-bytes-le2 c = (
  reach_cut step least c.args.bytes.now (control2 c.args.f) 2 (omega arith) ∙ ap (λ (n : ℕ). Unfinished (1 + n)) (sym c.least_values.ensures),
  omega (arith, header_two (second c.args.f (get_or c.args.bytes.now 2 0)) c.requires.0),
)

pub returns : goal.returns
returns c =
    let a = c.args in
    let g = c.second_of-fields.result in
    let d = c.byte_at-d.result in
    let kept = at_kept (control2_rows g d) c.judge_control2.result 2 c.judge_control2.ensures c.in_ok-judged_at.field-0 c.in_ok-judged_at.ensures in
    control2_headed a.bytes.now a.f g d (omega arith) c.byte_at-d.ensures.0 c.second_of-fields.ensures c.requires.0 c.requires.1 kept

pub returns-in_err-judged_at : goal.returns-in_err-judged_at
returns-in_err-judged_at c =
    let a = c.args in
    let g = c.second_of-fields.result in
    let d = c.byte_at-d.result in
    let broken = at_broken (control2_rows g d) c.judge_control2.result 2 c.judge_control2.ensures c.from_residual.result c.in_err-judged_at.field-0.0 c.in_err-judged_at.ensures c.from_residual.ensures.1 in
    rw broken.2 (
      control2_broken a.bytes.now a.f g d (omega arith) c.byte_at-d.ensures.0 c.second_of-fields.ensures c.requires.0 broken.0 broken.1,
      omega (arith, header_two (second a.f (get_or a.bytes.now 2 0)) c.requires.0),
    )
