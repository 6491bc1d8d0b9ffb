-- The nought of mapped coefficients is the scaled value 0, and not the word 0. Assumes nothing.
use Prim.Native.Nat.{◌≤◌}
use mathlib.Core.Path.{◌≡◌}
use mathlib.Core.Bool.{true}
use mathlib.Core.Logic.{◌≢◌}
use native.Mathlib.Nat.{pow-le-pow_right}
use native.Mathlib.Omega.{arith}
use lib.IntN.{pos}
use Rattle.std.specs.Prelude.{Ok}
use Rattle.rule.specs.Scaled.{nought_of, scaled_of}
use Rattle.rule.proofs.Scales.{scaled_nought}
use Rattle.matrix.specs.declared.Fields.{Fields}
use Rattle.matrix.specs.Meaning.{nought}

-- coefficients are mapped, of 1 to 8 bytes
module _ (f : Fields) (mapped : f.cf ≡ true) (least : 1 ≤ f.clen) (most : f.clen ≤ 8) where
  nought_is : nought f ≡ nought_of f.clen
  nought_is = rw mapped

  pub nought_scaled : scaled_of (nought f) f.clen ≡ Ok (pos 0)
  nought_scaled = rw nought_is (scaled_nought f.clen least most)

  -- the nought is not the word 0, which is the scaled value −1
  pub nought_not_zero : nought f ≢ 0
  nought_not_zero = omega (arith, nought_is, pow-le-pow_right {n = 256} (omega arith) {i = 1} {j = f.clen} least)
