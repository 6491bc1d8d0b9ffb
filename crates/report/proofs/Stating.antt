-- Two answers to feeding that state the same are the same. Assumes nothing.
use Prim.Native.Nat.{ℕ}
use mathlib.Core.Path.{◌≡◌, sym, ap, ap₂, ◌∙◌}
use Rattle.std.specs.Prelude.{Result, Ok, Err}
use Rattle.verdict.specs.declared.Refusal.{Refusal}
use Rattle.verdict.proofs.Stating.{stated_at, gives_no_refusal, refusal_stated}
use Rattle.report.specs.declared.feed.State.{State}
use Rattle.report.specs.declared.feed.Fed.{Fed}
use Rattle.report.specs.Stated.{stated_feeding}

pub feeding_own : (x y : Result Fed Refusal) → stated_feeding x ≡ stated_feeding y → x ≡ y
feeding_own (Ok x) (Ok y) e =
    let state : x.state ≡ y.state = ap₂ (λ (number held : ℕ). record { number = number; held = held }) (stated_at 0 e) (stated_at 1 e) in
    ap₂ (λ (k n : ℕ). Ok (record { state = x.state; taken = k; written = n })) (stated_at 2 e) (stated_at 3 e) ∙ ap (λ (u : State). Ok (record { state = u; taken = y.taken; written = y.written })) state
feeding_own (Ok x) (Err q) e = absurd (gives_no_refusal e)
feeding_own (Err r) (Ok y) e = absurd (gives_no_refusal (sym e))
feeding_own (Err r) (Err q) e = ap Err (refusal_stated r q e)
