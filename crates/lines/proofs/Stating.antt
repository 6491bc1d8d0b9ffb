-- Two answers to taking characters that state the same are the same. Assumes nothing.
use Prim.Native.Nat.{ℕ}
use mathlib.Core.Path.{◌≡◌, sym, ap, ap₂}
use Rattle.std.specs.Prelude.{Result, Ok, Err}
use Rattle.verdict.specs.declared.Refusal.{Refusal}
use Rattle.verdict.proofs.Stating.{stated_at, gives_no_refusal, refusal_stated}
use Rattle.lines.specs.declared.Taken.{Taken}
use Rattle.lines.specs.Stated.{stated_taking}

pub taking_own : (x y : Result Taken Refusal) → stated_taking x ≡ stated_taking y → x ≡ y
taking_own (Ok x) (Ok y) e = ap₂ (λ (held count : ℕ). Ok (record { held = held; count = count })) (stated_at 0 e) (stated_at 1 e)
taking_own (Ok x) (Err q) e = absurd (gives_no_refusal e)
taking_own (Err r) (Ok y) e = absurd (gives_no_refusal (sym e))
taking_own (Err r) (Err q) e = ap Err (refusal_stated r q e)
