-- What a complete verdict gives: the bytes have a lawful meaning, and begin with its bytes. Assumes nothing.
use Prim.Native.Nat.{ℕ}
use mathlib.Core.Path.{◌≡◌, ap, ◌∙◌, subst}
use mathlib.Core.List.{List}
use lib.ListN.{length, take, drop, take-append-drop}
use lib.Seq.{length-take-le}
use Rattle.verdict.specs.declared.Verdict.TheVariants.{Complete}
use Rattle.verdict.specs.Says.{Bytes, CompleteAt, Says}
use Rattle.matrix.specs.declared.Told.{Told}
use Rattle.matrix.specs.Spelling.{bytes_of, meaning_of}
use Rattle.matrix.specs.Pack.{MatrixPack}
use Rattle.matrix.specs.Table.{Why}
use Rattle.matrix.specs.Machine.{size, step, least, verdict_of}
use Rattle.matrix.specs.Reached.{Good}
use Rattle.verdict.proofs.Running.{verdict_said}
use Rattle.matrix.proofs.Keeping.{matrix_laws}
use Rattle.matrix.proofs.Accepting.{accepted_pack, pack_accepted}
use Rattle.matrix.proofs.Reasons.{blames_why}
use Rattle.matrix.proofs.Decoding.{Meant, pack_meaning}

module _ (told : Told) (bytes : List ℕ) (b : Bytes bytes) (n : ℕ) (e : verdict_of told bytes ≡ Complete n) where
  said : CompleteAt (MatrixPack told) bytes n
  said =
      subst (Says (MatrixPack told) (Why told) bytes) e
      (verdict_said step least Good matrix_laws (MatrixPack told) (Why told) (size told) tt (λ w. (accepted_pack told w, pack_accepted told w)) (blames_why told) bytes b)

  pub complete_meaning : Meant told (take n bytes) (meaning_of told bytes)
  complete_meaning = subst (λ (w : List ℕ). Meant told (take n bytes) (meaning_of told w)) (take-append-drop n bytes) (pack_meaning told (take n bytes) (drop n bytes) said.pack)

  -- and so many bytes
  pub complete_count : length (bytes_of (meaning_of told bytes)) ≡ n
  complete_count = ap length complete_meaning.2 ∙ length-take-le n bytes said.within
