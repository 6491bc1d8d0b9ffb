-- How large the counts of bytes that follow from lawful fields can be. Assumes nothing.
use Prim.Native.Nat.{ℕ, ◌+◌, ◌*◌, ◌/◌, ◌≤◌, min, max}
use mathlib.Core.Bool.{Bool, true, false, cond}
use native.Mathlib.Nat.{mul-le-mul}
use native.Mathlib.Omega.{arith}
use lib.Dec.{eqb}
use Rattle.verdict.proofs.Cases.{by_test}
use Rattle.matrix.specs.declared.Fields.{Fields}
use Rattle.matrix.specs.Meaning.{pairs, LawfulFirst, LawfulFields}
use Rattle.matrix.specs.Header.{bit}
use Rattle.matrix.specs.Machine.{least_for, least_values, fewest}
use Rattle.matrix.proofs.ControlBytes.{clen_small, slen_small}
use Rattle.matrix.proofs.Pairs.{pairs_most}

-- the bytes of the deviations, and of so many coefficients
pub deviations_most : (f : Fields) → LawfulFields f → f.n * f.slen ≤ 512
deviations_most f g = mul-le-mul {n₁ = f.n} {m₁ = f.slen} {n₂ = 64} {m₂ = 8} g.first.size_most (slen_small f g)

pub coefficients_most : (f : Fields) (sent : ℕ) → LawfulFirst f → sent ≤ 2016 → sent * f.clen ≤ 16128
coefficients_most f sent g h = mul-le-mul {n₁ = sent} {m₁ = f.clen} {n₂ = 2016} {m₂ = 8} h (clen_small f g)

pub each_most : (each n : ℕ) → each ≤ 2 → n ≤ 64 → n * each ≤ 128
each_most each n e h = mul-le-mul {n₁ = n} {m₁ = each} {n₂ = 64} {m₂ = 2} h e

pub least_for_most : (each n : ℕ) → each ≤ 2 → n ≤ 64 → least_for each n ≤ 128
least_for_most each n e h = by_test (λ (k : ℕ). k ≤ 128) (eqb n 1) each (min (n * each) (min (pairs n) ((pairs n + 7) / 8 + 1))) (λ t. omega arith) (λ t. omega (arith, each_most each n e h))

pub least_values_most : (f : Fields) → LawfulFirst f → least_values f ≤ 16128
least_values_most f g = go f.cs
  where
    go : (cs : Bool) → cond cs (bit cs * ((pairs f.n + 7) / 8) + min f.clen f.n) (cond (eqb f.clen 0) f.n (pairs f.n * f.clen)) ≤ 16128
    go true = omega (arith, pairs_most f.n g.size_most, clen_small f g)
    go false =
        by_test (λ (k : ℕ). k ≤ 16128) (eqb f.clen 0) f.n (pairs f.n * f.clen) (λ e. omega (arith, g.size_most))
        (λ e. coefficients_most f (pairs f.n) g (pairs_most f.n g.size_most))

pub fewest_most : (f : Fields) (sent : ℕ) → sent ≤ 2016 → fewest f sent ≤ 2016
fewest_most f sent h = by_test (λ (k : ℕ). max sent k ≤ 2016) (eqb f.slen 0) 1 0 (λ e. omega arith) (λ e. omega arith)
