-- How many octets a value has. Assumes nothing.
use Prim.Native.Nat.{ℕ, zero, suc, ◌+◌, ◌*◌, ◌/◌, ◌%◌, ◌^◌, ◌≤◌, ◌<◌}
use mathlib.Core.Path.{◌≡◌, refl, ◌∙◌, sym, ap}
use mathlib.Core.List.{[], ◌∷◌, ◌++◌}
use native.Mathlib.Omega.{arith}
use native.Mathlib.Nat.{pow-suc}
use lib.ListN.{length, length-append}
use Rattle.number.specs.Octets.{high, octets}
use Rattle.number.proofs.Octets.{high_none, high_more}

-- the last octet behind the others
pub octets_last : (v : ℕ) → octets v ≡ high (v / 128) ++ (v % 128 ∷ [])
unfolding octets
octets_last v = refl

pub high_last : (v : ℕ) → 0 < v → high v ≡ high (v / 128) ++ ((128 + v % 128) ∷ [])
high_last v h =
    let e : v / 128 * 128 + v % 128 ≡ v = omega arith in
    ap high (sym e) ∙ high_more (v / 128) (v % 128) (omega arith) (omega arith)

pub length_octets : (v : ℕ) → length (octets v) ≡ length (high (v / 128)) + 1
length_octets v = rw octets_last (length-append (high (v / 128)) (v % 128 ∷ []))

pub length_high : (v : ℕ) → 0 < v → length (high v) ≡ length (high (v / 128)) + 1
length_high v h = rw (high_last v h) (length-append (high (v / 128)) ((128 + v % 128) ∷ []))

pub length_high_none : length (high 0) ≡ 0
length_high_none = rw high_none

-- k octets below 128 ^ k
high_below : (k v : ℕ) → v < 128 ^ k → length (high v) ≤ k
high_below zero v h = let e : v ≡ 0 = omega arith in rw (e, high_none) (omega arith)
high_below (suc k) zero h = rw high_none (omega arith)
high_below (suc k) (suc v) h = omega (arith, length_high (suc v) (omega arith), high_below k (suc v / 128) (omega (arith, pow-suc 128 k)))

-- ten octets in 64 bits
pub octets_short : (v : ℕ) → v < 2 ^ 64 → length (octets v) ≤ 10
octets_short v h = omega (arith, length_octets v, high_below 9 (v / 128) (omega arith))
