-- A word of the code fits in eight bytes and in more. Assumes nothing.
use Prim.Native.Nat.{ℕ, ◌^◌, ◌≤◌, ◌<◌}
use native.Mathlib.Omega.{arith}
use native.Mathlib.Nat.{pow-le-pow_right}

pub eight_fit : (n word : ℕ) → 8 ≤ n → word < 2 ^ 64 → word < 256 ^ n
eight_fit n word h fits = omega (arith, pow-le-pow_right {n = 256} (omega arith) {i = 8} {j = n} h)
