-- What a complete verdict gives: the bytes have a lawful meaning, and begin with its bytes. Assumes nothing.
use Prim.Native.Nat.{ℕ}
use mathlib.Core.Path.{◌≡◌, ap, ◌∙◌, subst}
use mathlib.Core.List.{List}
use native.Mathlib.Omega.{arith}
use lib.ListN.{length, take, drop, take-append-drop}
use lib.Seq.{length-take-le}
use Rattle.verdict.specs.declared.Verdict.TheVariants.{Complete}
use Rattle.verdict.specs.Says.{Bytes, CompleteAt, Says}
use Rattle.array.specs.Meaning.{Lawful}
use Rattle.array.specs.Spelling.{bytes_of, ArrayPack}
use Rattle.array.specs.Decoded.{meaning_of}
use Rattle.array.specs.Table.{dims, Why}
use Rattle.array.specs.Machine.{number, move, least, Good, verdict_of}
use Rattle.verdict.proofs.Running.{verdict_said}
use Rattle.array.proofs.Keeping.{array_laws}
use Rattle.array.proofs.Accepting.{accepted_pack, pack_accepted}
use Rattle.array.proofs.Reasons.{blames_why}
use Rattle.array.proofs.Decoding.{pack_meaning}

module _ (bytes : List ℕ) (b : Bytes bytes) (n : ℕ) (e : verdict_of bytes ≡ Complete n) where
  said : CompleteAt ArrayPack bytes n
  said = subst (Says ArrayPack Why bytes) e (verdict_said move least Good array_laws ArrayPack Why (number dims 0) (tt, omega arith) (λ w. (accepted_pack w, pack_accepted w)) blames_why bytes b)

  pub complete_meaning : Lawful (meaning_of bytes) × (bytes_of (meaning_of bytes) ≡ take n bytes)
  complete_meaning =
      subst (λ (w : List ℕ). Lawful (meaning_of w) × (bytes_of (meaning_of w) ≡ take n bytes)) (take-append-drop n bytes) (pack_meaning (take n bytes) (drop n bytes) said.pack)

  -- and so many bytes
  pub complete_count : length (bytes_of (meaning_of bytes)) ≡ n
  complete_count = ap length complete_meaning.1 ∙ length-take-le n bytes said.within
