-- What a walk that finds a whole pack says of its bytes, and what unpacking and expanding answer behind each walk. Assumes nothing.
use Prim.Native.Nat.{ℕ}
use mathlib.Core.Path.{◌≡◌, refl, ◌∙◌, ap, sym, subst}
use mathlib.Core.List.{List}
use native.Mathlib.Omega.{arith}
use lib.ListN.{length, length-take}
use Rattle.verdict.specs.declared.Verdict.TheVariants.{Complete}
use Rattle.verdict.specs.Says.{Bytes}
use Rattle.matrixwalk.specs.declared.Found.{Found}
use Rattle.std.specs.Prelude.{Result, Ok, Err}
use Rattle.verdict.specs.declared.Stop.{Stop}
use Rattle.verdict.specs.declared.Stop.TheVariants.{Unfinished as StopUnfinished, Refused as StopRefused}
use Rattle.verdict.specs.Answers.{stopped}
use Rattle.matrix.specs.declared.Told.{Told}
use Rattle.matrix.specs.Spelling.{meaning_of}
use Rattle.matrix.specs.Machine.{verdict_of}
use Rattle.matrixwalk.specs.Walk.{found_of, walked_for, walked_of}
use Rattle.matrixwalk.proofs.Walking.{walk_said}
use Rattle.matrix.proofs.Complete.{complete_meaning}
use Rattle.matrix.proofs.Decoding.{pack_length}
use Rattle.unpack.specs.Unpacking.{UnpackedBy, ExpandedBy}
use Rattle.unpack.specs.Found.{meaning_found, Whole}

complete_whole : (told : Told) (bytes : List ℕ) → Bytes bytes → (n : ℕ) → verdict_of told bytes ≡ Complete n → Whole bytes (found_of told bytes n)
complete_whole told bytes b n e =
    let x = complete_meaning told bytes b n e in
    record { lawful = x.0; start = refl; within = omega (arith, pack_length (meaning_of told bytes), ap length x.2, length-take n bytes) }

-- what was found is what the bytes have
found_same : (told : Told) (bytes : List ℕ) (found : Found) → Ok found ≡ walked_of told bytes → found ≡ found_of told bytes found.length
found_same told bytes found w = inside (w ∙ ap (walked_for told bytes) (walk_said told bytes (Ok found) w))
  where
    inside : {x y : Found} → ◌≡◌ {A = Result Found Stop} (Ok x) (Ok y) → x ≡ y
    inside e = cc

-- a whole pack that was found stands in the bytes
pub found_whole : (told : Told) (bytes : List ℕ) → Bytes bytes → (found : Found) → Ok found ≡ walked_of told bytes → Whole bytes found
found_whole told bytes b found w =
    subst (Whole bytes) (sym (found_same told bytes found w)) (complete_whole told bytes b found.length (walk_said told bytes (Ok found) w))

-- and has the meaning of the bytes
pub found_meaning : (told : Told) (bytes : List ℕ) (found : Found) → Ok found ≡ walked_of told bytes → meaning_found bytes found ≡ meaning_of told bytes
found_meaning told bytes found w = ap (λ (x : Found). meaning_found bytes x) (found_same told bytes found w)

-- where there is no whole pack, the verdict is answered and the lists stay
module _ (told : Told) (bytes deviations coefficients marks : List ℕ) where
  pub unpacked_stopped : (stop : Stop) → Err stop ≡ walked_of told bytes → UnpackedBy told bytes deviations coefficients marks (stopped stop) deviations coefficients marks
  unpacked_stopped (StopUnfinished missing) w = rw (walk_said told bytes (Err (StopUnfinished missing)) w) (record { said = refl; left_deviations = refl; left_coefficients = refl; left_marks = refl })
  unpacked_stopped (StopRefused refusal) w = rw (walk_said told bytes (Err (StopRefused refusal)) w) (record { said = refl; left_deviations = refl; left_coefficients = refl; left_marks = refl })

module _ (told : Told) (bytes words marks : List ℕ) where
  pub expanded_stopped : (stop : Stop) → Err stop ≡ walked_of told bytes → ExpandedBy told bytes words marks (stopped stop) words marks
  expanded_stopped (StopUnfinished missing) w = rw (walk_said told bytes (Err (StopUnfinished missing)) w) (record { said = refl; left_words = refl; left_marks = refl })
  expanded_stopped (StopRefused refusal) w = rw (walk_said told bytes (Err (StopRefused refusal)) w) (record { said = refl; left_words = refl; left_marks = refl })
