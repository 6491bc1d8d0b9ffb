-- No size stands before the first, and each draw brings one more, or the verdict.
use Rattle.std.proofs.Common.{ap, ◌∙◌, arith}
use native.Mathlib.Nat.{mul-le-mul_right}
use Rattle.std.specs.Prelude.{Err}
use Rattle.number.specs.declared.Undrawn.{Undrawn}
use Rattle.number.specs.declared.Numbers.{Numbers}
use Rattle.arraywalk.proofs.Walking.{sizes_none}
use Rattle.arraywalk.proofs.Going.{going_limited, going_on, going_cut, going_refused}
use Rattle.arraywalk.proofs.draw_sizes.Goals as goal

pub loop-count-init : goal.loop-count-init
loop-count-init c =
    let a = c.args in
    let made = c.at-numbers.ensures in
    record {
      held = ap (λ (n : Numbers). n.bytes.now) made;
      sizes = rw (ap (λ (n : Numbers). n.place) made) (sizes_none a.bytes.now c.requires.0 a.dims.value a.dims.next c.requires.1);
    }

pub loop-count-preserved : goal.loop-count-preserved
loop-count-preserved c =
    let a = c.args in let l = c.loop-count in let drew = c.draw-numbers in
    record {
      held = ap (λ (n : Numbers). n.bytes.now) drew.ensures ∙ l.invariant.held;
      sizes = going_on a.bytes.now c.requires.0 a.dims.value l.count l.product l.numbers l.invariant.held l.invariant.sizes c.loop-count-test.true drew.result drew.ensures c.in-Ok.size c.in-Ok.is;
    }

pub overflow_cast-product : goal.overflow_cast-product
overflow_cast-product c =
    let a = c.args in let l = c.loop-count in let drew = c.draw-numbers in
    let limited = going_limited a.bytes.now c.requires.0 a.dims.value l.count l.product l.numbers l.invariant.held l.invariant.sizes c.loop-count-test.true drew.result drew.ensures c.in-Ok.size c.in-Ok.is in
    omega (arith, limited, mul-le-mul_right c.in-Ok.size.value l.invariant.sizes.least)

pub overflow_mul-product : goal.overflow_mul-product
overflow_mul-product c =
    let a = c.args in let l = c.loop-count in let drew = c.draw-numbers in
    omega (arith, going_limited a.bytes.now c.requires.0 a.dims.value l.count l.product l.numbers l.invariant.held l.invariant.sizes c.loop-count-test.true drew.result drew.ensures c.in-Ok.size c.in-Ok.is)

pub returns-in-Err-Cut : goal.returns-in-Err-Cut
returns-in-Err-Cut c =
    let a = c.args in let l = c.loop-count in let drew = c.draw-numbers in
    going_cut a.bytes.now c.requires.0 a.dims.value l.count l.product l.numbers l.invariant.held l.invariant.sizes c.loop-count-test.true drew.result drew.ensures c.in-Err-Cut.field-0-0 (c.in-Err-Cut.is ∙ ap (λ (u : Undrawn). Err u) (rw c.in-Err-Cut.is at c.in-Err-Cut.field-0-is))

pub returns-in-Err-Refused : goal.returns-in-Err-Refused
returns-in-Err-Refused c =
    let a = c.args in let l = c.loop-count in let drew = c.draw-numbers in
    going_refused a.bytes.now c.requires.0 a.dims.value l.count l.product l.numbers l.invariant.held l.invariant.sizes c.loop-count-test.true drew.result drew.ensures c.in-Err-Refused.refusal (c.in-Err-Refused.is ∙ ap (λ (u : Undrawn). Err u) (rw c.in-Err-Refused.is at c.in-Err-Refused.field-0-is))
