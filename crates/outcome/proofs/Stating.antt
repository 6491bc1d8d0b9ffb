-- Two outcomes that state the same are the same. Assumes nothing.
use mathlib.Core.Path.{◌≡◌, refl, sym, ap}
use native.Mathlib.Omega.{arith}
use Rattle.verdict.proofs.Stating.{stated_at, stated_count, misses_one, gives_no_misses, gives_no_refusal, misses_no_refusal, refusal_stated}
use Rattle.outcome.specs.declared.Outcome.{Outcome}
use Rattle.outcome.specs.declared.Outcome.TheVariants.{Ok, Cut, Bad, Open}
use Rattle.outcome.specs.Stated.{stated_outcome}

pub outcome_own : (x y : Outcome) → stated_outcome x ≡ stated_outcome y → x ≡ y
outcome_own (Ok n) (Ok k) e = ap Ok (stated_at 0 e)
outcome_own (Cut n) (Cut k) e = ap Cut (misses_one e)
outcome_own (Bad r) (Bad q) e = ap Bad (refusal_stated r q e)
outcome_own Open Open e = refl
outcome_own (Ok n) (Cut k) e = absurd (gives_no_misses e)
outcome_own (Ok n) (Bad q) e = absurd (gives_no_refusal e)
outcome_own (Ok n) Open e = absurd (omega (arith, stated_count e))
outcome_own (Cut n) (Ok k) e = absurd (gives_no_misses (sym e))
outcome_own (Cut n) (Bad q) e = absurd (misses_no_refusal e)
outcome_own (Cut n) Open e = absurd (gives_no_misses (sym e))
outcome_own (Bad r) (Ok k) e = absurd (gives_no_refusal (sym e))
outcome_own (Bad r) (Cut k) e = absurd (misses_no_refusal (sym e))
outcome_own (Bad r) Open e = absurd (gives_no_refusal (sym e))
outcome_own Open (Ok k) e = absurd (omega (arith, stated_count e))
outcome_own Open (Cut k) e = absurd (gives_no_misses e)
outcome_own Open (Bad q) e = absurd (gives_no_refusal e)
