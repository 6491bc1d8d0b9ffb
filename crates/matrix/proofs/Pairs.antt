-- How many pairs of variables there are. Assumes nothing.
use Prim.Native.Nat.{ℕ, ◌-◌, ◌*◌, ◌≤◌}
use native.Mathlib.Nat.{mul-le-mul}
use native.Mathlib.Omega.{arith}
use Rattle.matrix.specs.Meaning.{pairs}

pub pairs_some : (n : ℕ) → 2 ≤ n → 1 ≤ pairs n
pairs_some n h = let p : 2 * 1 ≤ n * (n - 1) = mul-le-mul {n₁ = 2} {m₁ = 1} {n₂ = n} {m₂ = n - 1} h (omega arith) in omega arith

pub pairs_room : (n : ℕ) → n ≤ 64 → n * (n - 1) ≤ 4032
pairs_room n h = mul-le-mul {n₁ = n} {m₁ = n - 1} {n₂ = 64} {m₂ = 63} h (omega arith)

pub pairs_most : (n : ℕ) → n ≤ 64 → pairs n ≤ 2016
pairs_most n h = omega (arith, pairs_room n h)
