-- Two answers of a draw that state the same are the same. Assumes nothing.
use mathlib.Core.Path.{◌≡◌, sym, ap, ap₂}
use native.Mathlib.Omega.{arith}
use Rattle.std.specs.Prelude.{Result, Ok, Err}
use Rattle.verdict.specs.declared.Refusal.{Refusal}
use Rattle.verdict.proofs.Stating.{stated_at, stated_count, gives_no_refusal, refusal_stated}
use Rattle.number.specs.declared.Number.{Number}
use Rattle.number.specs.declared.Undrawn.{Undrawn}
use Rattle.number.specs.declared.Undrawn.TheVariants.{Cut, Refused}
use Rattle.number.specs.Draw.{drawn_number}
use Rattle.number.specs.Stated.{stated_drawn}

-- why there is no number, as an answer
abbrev undrawn : Undrawn → Result Number Undrawn
undrawn reason = Err reason

pub drawn_stated : (a b : Result Number Undrawn) → stated_drawn a ≡ stated_drawn b → a ≡ b
drawn_stated (Ok n) (Ok m) e = ap₂ drawn_number (stated_at 0 e) (stated_at 1 e)
drawn_stated (Ok n) (Err (Cut u)) e = absurd (omega (arith, stated_count e))
drawn_stated (Ok n) (Err (Refused q)) e = absurd (gives_no_refusal e)
drawn_stated (Err (Cut v)) (Ok m) e = absurd (omega (arith, stated_count e))
drawn_stated (Err (Cut v)) (Err (Cut u)) e = ap (λ k. undrawn (Cut k)) (omega (arith, stated_at 0 e))
drawn_stated (Err (Cut v)) (Err (Refused q)) e = absurd (gives_no_refusal e)
drawn_stated (Err (Refused r)) (Ok m) e = absurd (gives_no_refusal (sym e))
drawn_stated (Err (Refused r)) (Err (Cut u)) e = absurd (gives_no_refusal (sym e))
drawn_stated (Err (Refused r)) (Err (Refused q)) e = ap (λ (k : Refusal). undrawn (Refused k)) (refusal_stated r q e)
