-- Demand 3 for matrix packs: of every string of bytes exactly one verdict is said, and it is the run's. Assumes nothing.
use Prim.Native.Nat.{ℕ}
use mathlib.Core.Path.{◌≡◌}
use mathlib.Core.List.{List, [], ◌++◌}
use lib.ListN.{length}
use Rattle.verdict.specs.declared.Verdict.{Verdict}
use Rattle.verdict.specs.declared.Verdict.TheVariants.{Complete}
use Rattle.verdict.specs.Says.{Bytes, Says}
use Rattle.verdict.specs.Machine.{Accepts}
use Rattle.verdict.proofs.Running as running
use Rattle.matrix.specs.declared.Told.{Told}
use Rattle.matrix.specs.Pack.{MatrixPack}
use Rattle.matrix.specs.Table.{Why}
use Rattle.matrix.specs.Machine.{size, step, least, verdict_of}
use Rattle.matrix.specs.Reached.{Good}
use Rattle.matrix.proofs.Keeping.{matrix_laws}
use Rattle.matrix.proofs.Accepting.{accepted_pack, pack_accepted}
use Rattle.matrix.proofs.Reasons.{blames_why, one_reason}

-- under whatever is told: of either mode with each stated format, or of Mode 2 alone
module _ (told : Told) where
  -- the machine accepts exactly the packs
  accepts_packs : (w : List ℕ) → (Accepts step (size told) w → MatrixPack told w) × (MatrixPack told w → Accepts step (size told) w)
  accepts_packs w = (accepted_pack told w, pack_accepted told w)

  -- the run's verdict is said
  pub matrix_said : (bs : List ℕ) → Bytes bs → Says (MatrixPack told) (Why told) bs (verdict_of told bs)
  matrix_said = running.verdict_said step least Good matrix_laws (MatrixPack told) (Why told) (size told) tt accepts_packs (blames_why told)

  -- and no other
  pub matrix_only : (bs : List ℕ) → Bytes bs → (v : Verdict) → Says (MatrixPack told) (Why told) bs v → v ≡ verdict_of told bs
  matrix_only = running.verdict_only step least Good matrix_laws (MatrixPack told) (Why told) (size told) tt accepts_packs (blames_why told) (one_reason told)

  -- a pack is complete at its length, whatever is appended
  pub matrix_complete : (w t : List ℕ) → MatrixPack told w → verdict_of told (w ++ t) ≡ Complete (length w)
  matrix_complete = running.pack_complete step least Good matrix_laws (MatrixPack told) (Why told) (size told) tt accepts_packs (blames_why told)

  -- no pack is the beginning of another
  pub matrix_alone : (w t : List ℕ) → MatrixPack told w → MatrixPack told (w ++ t) → t ≡ []
  matrix_alone = running.pack_alone step least Good matrix_laws (MatrixPack told) (Why told) (size told) tt accepts_packs (blames_why told)
