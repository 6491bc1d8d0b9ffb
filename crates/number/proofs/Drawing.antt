-- Drawing at a place of the bytes: none are left there, or the octet there is taken; and how great a number may be behind a product. Assumes nothing.
use Prim.Native.Nat.{ℕ, zero, suc, ◌+◌, ◌*◌, ◌/◌, ◌<◌, ◌≤◌}
use mathlib.Core.Path.{◌≡◌, sym, ap, ◌∙◌}
use mathlib.Core.Bool.{Bool, true}
use mathlib.Core.List.{List}
use native.Mathlib.Nat.{mul_comm, le-div_iff_mul-le}
use native.Mathlib.Omega.{arith}
use borrow.Author.Tests.{ne_eqb}
use native.Mathlib.Numerals.{add-one}
use lib.ListN.{length, get_or, drop, drop_of_length-le}
use lib.Seq.{drop-cons}
use Rattle.std.specs.Prelude.{Result, Ok, Err}
use Rattle.verdict.specs.declared.Reason.{Reason}
use Rattle.number.specs.declared.Effect.{Effect}
use Rattle.number.specs.declared.Effect.TheVariants.{Ends}
use Rattle.number.specs.declared.Undrawn.TheVariants.{Cut}
use Rattle.number.specs.Octet.{effect_of}
use Rattle.number.specs.Draw.{drawn_number, after, draw_on, draw_at, limit_behind}
use Rattle.number.proofs.Octet.{effect_ends}

module _ (bytes : List ℕ) (at value : ℕ) (positive : Bool) (most : ℕ) where
  pub draw_past_end : length bytes ≤ at → draw_on (drop at bytes) at value positive most ≡ Err (Cut value)
  unfolding draw_on
  draw_past_end h = rw (drop_of_length-le bytes h)

  pub draw_octet : at < length bytes → (e : Result Effect Reason) → e ≡ effect_of (get_or bytes at 0) value positive most → draw_on (drop at bytes) at value positive most ≡ after e at (λ v. draw_on (drop (at + 1) bytes) (at + 1) v positive most)
  unfolding draw_on
  draw_octet h e x = rw (drop-cons bytes at 0 h, x, add-one at)

-- behind a product of 1 or more it is the quotient
pub limit_behind_lem : (most p : ℕ) → 1 ≤ p → limit_behind most p ≡ most / p
limit_behind_lem most p h = rw (ne_eqb p 0 (λ e. omega arith))

-- what keeps the limit with the product is no greater
limit_kept : (most p v : ℕ) → v < 128 → p * v ≤ most → v ≤ limit_behind most p
limit_kept most zero v s h = omega arith
limit_kept most (suc p) v s h = rw (limit_behind_lem most (suc p) (omega arith)) ((le-div_iff_mul-le {k = suc p} {x = v} {y = most} (omega arith)).1 (omega (arith, mul_comm v (suc p))))

-- an octet that ends its number and keeps the limit behind a product is drawn
pub short_drawn : (bytes : List ℕ) (place : ℕ) (positive : Bool) (most p octet : ℕ) → place < length bytes → octet ≡ get_or bytes place 0 → octet < 128 → p * octet ≤ most → (positive ≡ true → 0 < octet)
    → drawn_number octet (place + 1) ≡ draw_at bytes place positive (limit_behind most p)
short_drawn bytes place positive most p octet h e l m c =
    let k = limit_kept most p octet l m in
    sym (draw_octet bytes place 0 positive (limit_behind most p) h (Ok (Ends (0 * 128 + octet))) (sym (rw (← e) (effect_ends octet 0 positive (limit_behind most p) l (λ q. omega (arith, c q)) (omega (arith, k))))) ∙ ap (λ (v : ℕ). drawn_number v (place + 1)) (omega arith))
