-- E is drawn behind the sizes, or the bytes are cut or refused in it; what is begun of E is small.
use Rattle.std.proofs.Common.{◌≡◌, ◌≤◌, ◌∙◌, ◌/◌, ◌*◌, List, ℕ, false, ap, arith}
use Rattle.std.specs.Prelude.{Result, Ok, Err}
use Rattle.number.specs.declared.Number.{Number}
use Rattle.number.specs.declared.Undrawn.{Undrawn}
use Rattle.number.specs.declared.Undrawn.TheVariants.{Cut, Refused}
use Rattle.number.specs.Draw.{draw_at, limit_behind}
use Rattle.number.proofs.Drawing.{limit_behind_lem}
use Rattle.array.specs.Meaning.{most}
use Rattle.arraywalk.specs.declared.Sized.{Sized}
use Rattle.arraywalk.specs.Parts.{SizedTo}
use Rattle.arraywalk.proofs.Walking.{element_drawn, element_cut, element_begun, element_refused}
use Rattle.arraywalk.proofs.draw_element.Goals as goal

-- behind the sizes the limit is the quotient
quotient : (bytes : List ℕ) (sized : Sized) → SizedTo bytes sized.dims sized → (d : Result Number Undrawn) → d ≡ draw_at bytes sized.place false (limit_behind most sized.product) → d ≡ draw_at bytes sized.place false (most / sized.product)
quotient bytes sized z d e = e ∙ ap (draw_at bytes sized.place false) (limit_behind_lem most sized.product z.least)

-- what is begun where the bytes are cut
begun : (c : goal.In-Err-Cut) → (c.in-Err-Cut.begun * 128 ≤ most) × (c.args.sized.product * (c.in-Err-Cut.begun * 128) ≤ most)
begun c =
    let a = c.args in
    let v = c.in-Err-Cut.begun in
    element_begun a.bytes.now (λ i. (c.type_inv.bytes i).fits) a.sized c.requires v (quotient a.bytes.now a.sized c.requires (Err (Cut v)) (rw c.in-Err-Cut.field-0-is at c.in-Err-Cut.ensures))

pub past_processing-requires : goal.past_processing-requires
past_processing-requires c =
    let a = c.args in
    let e = c.in-Ok.element in
    element_drawn a.bytes.now (λ i. (c.type_inv.bytes i).fits) a.sized c.requires e.value e.next (quotient a.bytes.now a.sized c.requires (Ok e) c.in-Ok.ensures)

pub overflow_mul-result : goal.overflow_mul-result
overflow_mul-result c = rw c.in-Err-Cut.begun-is (omega (arith, begun c))

pub overflow_mul-result-in-Err-Cut : goal.overflow_mul-result-in-Err-Cut
overflow_mul-result-in-Err-Cut c = rw c.in-Err-Cut.begun-is (omega (arith, begun c))

pub overflow_add-result : goal.overflow_add-result
overflow_add-result c = rw c.in-Err-Cut.begun-is (omega (arith, begun c))

pub returns-in-Err-Cut : goal.returns-in-Err-Cut
returns-in-Err-Cut c =
    let a = c.args in
    let v = c.in-Err-Cut.begun in
    rw c.in-Err-Cut.begun-is
    (element_cut a.bytes.now (λ i. (c.type_inv.bytes i).fits) a.sized c.requires v (quotient a.bytes.now a.sized c.requires (Err (Cut v)) (rw c.in-Err-Cut.field-0-is at c.in-Err-Cut.ensures)))

pub returns-in-Err-Refused : goal.returns-in-Err-Refused
returns-in-Err-Refused c =
    let a = c.args in
    let r = c.in-Err-Refused.refusal in
    rw c.in-Err-Refused.refusal-is
    (element_refused a.bytes.now (λ i. (c.type_inv.bytes i).fits) a.sized c.requires r (quotient a.bytes.now a.sized c.requires (Err (Refused r)) (rw c.in-Err-Refused.field-0-is at c.in-Err-Refused.ensures)))
