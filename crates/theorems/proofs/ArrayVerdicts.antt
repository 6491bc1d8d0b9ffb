-- Demand 3 for array packs: of every string of bytes exactly one verdict is said, and it is the run's. Assumes nothing.
use Prim.Native.Nat.{ℕ}
use mathlib.Core.Path.{◌≡◌}
use mathlib.Core.List.{List, [], ◌++◌}
use native.Mathlib.Omega.{arith}
use lib.ListN.{length}
use Rattle.verdict.specs.declared.Verdict.{Verdict}
use Rattle.verdict.specs.declared.Verdict.TheVariants.{Complete}
use Rattle.verdict.specs.Says.{Bytes, Says}
use Rattle.verdict.proofs.Running as running
use Rattle.array.specs.Spelling.{ArrayPack}
use Rattle.array.specs.Table.{dims, Why}
use Rattle.array.specs.Machine.{number, move, least, Good, verdict_of}
use Rattle.array.proofs.Keeping.{array_laws}
use Rattle.array.proofs.Accepting.{accepted_pack, pack_accepted}
use Rattle.array.proofs.Reasons.{blames_why, one_reason}

good : Good (number dims 0)
good = (tt, omega arith)

-- the run's verdict is said
pub array_said : (bs : List ℕ) → Bytes bs → Says ArrayPack Why bs (verdict_of bs)
array_said = running.verdict_said move least Good array_laws ArrayPack Why (number dims 0) good (λ w. (accepted_pack w, pack_accepted w)) blames_why

-- and no other
pub array_only : (bs : List ℕ) → Bytes bs → (v : Verdict) → Says ArrayPack Why bs v → v ≡ verdict_of bs
array_only = running.verdict_only move least Good array_laws ArrayPack Why (number dims 0) good (λ w. (accepted_pack w, pack_accepted w)) blames_why one_reason

-- a pack is complete at its length, whatever is appended
pub array_complete : (w t : List ℕ) → ArrayPack w → verdict_of (w ++ t) ≡ Complete (length w)
array_complete = running.pack_complete move least Good array_laws ArrayPack Why (number dims 0) good (λ w. (accepted_pack w, pack_accepted w)) blames_why

-- no pack is the beginning of another
pub array_alone : (w t : List ℕ) → ArrayPack w → ArrayPack (w ++ t) → t ≡ []
array_alone = running.pack_alone move least Good array_laws ArrayPack Why (number dims 0) good (λ w. (accepted_pack w, pack_accepted w)) blames_why
