-- What the beginning of a matrix pack, and the fields that a writer is given, state. Assumes nothing.
use Prim.Native.Nat.{ℕ}
use mathlib.Core.Path.{◌≡◌, refl}
use mathlib.Core.Bool.{Bool, true, false, cond}
use mathlib.Core.List.{List, []}
use lib.Dec.{ltb}
use lib.ListN.{length, take}
use Rattle.std.specs.Prelude.{Result, Ok, Err}
use Rattle.verdict.specs.declared.Reason.{Reason}
use Rattle.verdict.specs.declared.Verdict.{Verdict}
use Rattle.verdict.specs.declared.Verdict.TheVariants.{Complete, Unfinished, Refused}
use Rattle.verdict.specs.Numbers.{number_of}
use Rattle.verdict.specs.Stated.{Stated, gives, misses, refuses}
use Rattle.matrix.specs.declared.Told.{Told}
use Rattle.matrix.specs.Machine.{verdict_of}
use Rattle.matrixhead.specs.Beginning.{before, values_of, begun_for, begun_of}
use Rattle.matrixhead.specs.Judging.{allowed_by}
use Rattle.matrixhead.specs.Stated.{stated_begun, stated_allowed}

-- the fields, the place of the first word and how many are sent where what stands before the words is whole and not refused, else the verdict on it
abbrev pub begun_statement : Told → List ℕ → Bool → Verdict → Stated
begun_statement told bytes short (Complete n) = stated_begun (Ok (values_of told bytes))
begun_statement told bytes short (Unfinished missing) = cond short (misses missing) (stated_begun (Ok (values_of told bytes)))
begun_statement told bytes short (Refused refusal) = refuses (number_of refusal.reason) refusal.place

pub begun_states : (told : Told) (bytes : List ℕ) → stated_begun (begun_of told bytes) ≡ begun_statement told bytes (ltb (length bytes) (before told bytes)) (verdict_of told (take (before told bytes) bytes))
begun_states told bytes = by (ltb (length bytes) (before told bytes)) (verdict_of told (take (before told bytes) bytes))
  where
    by : (short : Bool) (v : Verdict) → stated_begun (begun_for told bytes short v) ≡ begun_statement told bytes short v
    by short (Complete n) = refl
    by true (Unfinished missing) = refl
    by false (Unfinished missing) = refl
    by short (Refused refusal) = refl

-- a broken rule's number, at place 0
abbrev pub judged_states : Result Unit Reason → Stated
judged_states (Ok kept) = gives []
judged_states (Err reason) = refuses (number_of reason) 0

pub allowed_states : (judged : Result Unit Reason) → stated_allowed (allowed_by judged) ≡ judged_states judged
allowed_states (Ok kept) = refl
allowed_states (Err reason) = refl
