-- `OK` is answered exactly for the frames. Assumes nothing.
use Prim.Native.Nat.{ℕ, ◌+◌, ◌≤◌}
use mathlib.Core.Path.{◌≡◌, refl, sym, ap, ◌∙◌, subst}
use mathlib.Core.Bool.{false}
use mathlib.Core.Logic.{◌↔◌}
use mathlib.Core.List.{List, [], ◌++◌, append-nil}
use native.Mathlib.Omega.{arith}
use borrow.Author.Tests.{le-ltb, eq-eqb, eqb-true}
use lib.Dec.{eqb, ltb}
use lib.ListN.{length, take, drop, length-append, length-drop, take-append-drop}
use lib.Seq.{drop_at, take_all}
use Rattle.verdict.specs.declared.Reason.{Reason}
use Rattle.verdict.specs.declared.Reason.TheVariants.{UnknownKey, LengthForm, LengthDiffers, FrameShort, FrameLong}
use Rattle.verdict.specs.declared.Verdict.{Verdict}
use Rattle.verdict.specs.declared.Verdict.TheVariants.{Complete, Unfinished, Refused}
use Rattle.verdict.specs.Says.{Bytes, CompleteAt, Says}
use Rattle.verdict.proofs.Cases.{by_test}
use Rattle.word.proofs.Digits.{below_drop}
use Rattle.matrix.specs.Meaning.{stating}
use Rattle.matrix.specs.Pack.{MatrixPack}
use Rattle.matrix.specs.Table.{Why as MatrixWhy}
use Rattle.matrix.specs.Machine.{verdict_of as matrixVerdict}
use Rattle.theorems.proofs.MatrixVerdicts.{matrix_said, matrix_complete}
use Rattle.matrix.proofs.Lengths.{matrix_short}
use Rattle.array.specs.Spelling.{ArrayPack}
use Rattle.array.specs.Table.{Why as ArrayWhy}
use Rattle.array.specs.Machine.{verdict_of as arrayVerdict}
use Rattle.theorems.proofs.ArrayVerdicts.{array_said, array_complete}
use Rattle.array.proofs.Lengths.{array_short}
use Rattle.outcome.specs.declared.Kind.{Kind}
use Rattle.outcome.specs.declared.Kind.TheVariants.{Matrix, Array, Unknown}
use Rattle.outcome.specs.declared.Outcome.{Outcome}
use Rattle.outcome.specs.declared.Outcome.TheVariants.{Ok, Cut, Bad, Open}
use Rattle.outcome.specs.declared.FrameAnswer.{FrameAnswer}
use Rattle.std.specs.Prelude.{Result, Ok as ResultOk, Err}
use Rattle.berlength.specs.declared.Length.{Length}
use Rattle.berlength.specs.declared.NoLength.{NoLength}
use Rattle.berlength.specs.declared.NoLength.TheVariants.{Missing, WrongForm}
use Rattle.berlength.specs.Lengths.{length_of, shortest}
use Rattle.berlength.proofs.Lengths.{shortest_read, Shortest, length_shortest, shortest_few}
use Rattle.frame.specs.Frame.{longest, matrix_key, array_key, same, kind_of, outcome_of, value_answer, length_answer, key_answer, answer_of}
use Rattle.outcome.specs.Refusing.{refusing}
use Rattle.theorems.specs.Framed.{key_of, PackOf, Frame, FrameOf}
use Rattle.frame.proofs.Keys.{same_equal}

-- ---- what is answered `OK` is a frame

abbrev okay : Kind → ℕ → FrameAnswer
okay kind n = record { kind = kind; outcome = Ok n }

-- whatever an answer says, where it is `OK` the bytes are a frame
abbrev Means : List ℕ → FrameAnswer → Type 0
Means w answer = (kind : Kind) (n : ℕ) → answer ≡ okay kind n → FrameOf kind n w

-- no other outcome is `OK`
abbrev is_ok : Outcome → ℕ
is_ok (Ok n) = 1
is_ok (Cut missing) = 0
is_ok (Bad refusal) = 0
is_ok Open = 0

-- a refusal is not `OK`
pub refusing_other : (found kind : Kind) (reason : Reason) (n : ℕ) → refusing found reason ≡ record { kind = kind; outcome = Ok n } → ⊥
refusing_other found kind reason n e = let z : ◌≡◌ {A = ℕ} 0 1 = ap (λ (a : FrameAnswer). is_ok a.outcome) e in absurd (omega arith)

refused_means : (w : List ℕ) (found : Kind) (reason : Reason) → Means w (refusing found reason)
refused_means w found reason kind n e = absurd (refusing_other found kind reason n e)

-- the count of an outcome that is `OK`
abbrev ok_of : Outcome → ℕ
ok_of (Ok n) = n
ok_of (Cut missing) = 0
ok_of (Bad refusal) = 0
ok_of Open = 0

outcome_complete : (v : Verdict) (count n : ℕ) → outcome_of v count ≡ Ok n → (v ≡ Complete n) × (n ≡ count)
outcome_complete (Complete k) count n =
    by_test (λ (o : Outcome). o ≡ Ok n → (Complete k ≡ Complete n) × (n ≡ count)) (eqb k count) (Ok k) _
    (λ t e. let same : k ≡ n = ap ok_of e in (ap Complete same, omega (arith, same, eqb-true k count t)))
    (λ _ e. let z : ◌≡◌ {A = ℕ} 0 1 = ap is_ok e in absurd (omega arith))
outcome_complete (Unfinished missing) count n = λ e. let z : ◌≡◌ {A = ℕ} 0 1 = ap is_ok e in absurd (omega arith)
outcome_complete (Refused refusal) count n = λ e. let z : ◌≡◌ {A = ℕ} 0 1 = ap is_ok e in absurd (omega arith)

-- a value that its pack's verdict says is complete at its end is a pack
whole_value : (Pack : List ℕ → Type 0) (value : List ℕ) (n : ℕ) → CompleteAt Pack value n → n ≡ length value → Pack value
whole_value Pack value n c e = subst Pack (take_all n value (omega arith)) c.pack

module _ (w value : List ℕ) (bytes : Bytes value) where
  -- a value behind its key and its length
  pack_means : (found : Kind) (v : Verdict) → ((n : ℕ) → v ≡ Complete n → CompleteAt (PackOf found) value n) → w ≡ key_of found ++ (shortest (length value) ++ value)
      → Means w (record { kind = found; outcome = outcome_of v (length value) })
  pack_means found v said parts kind n e =
      let verdict = outcome_complete v (length value) n (ap (λ (a : FrameAnswer). a.outcome) e) in
      let whole = whole_value (PackOf found) value n (said n verdict.0) verdict.1 in
      subst (λ (k : Kind). FrameOf k n w) (ap (λ (a : FrameAnswer). a.kind) e) (record { frame = record { pack = value; whole = whole; spelled = parts }; count = sym verdict.1 })

  value_means : (found : Kind) → w ≡ key_of found ++ (shortest (length value) ++ value) → Means w (value_answer found value)
  value_means Matrix parts = pack_means Matrix (matrixVerdict (stating false) value) (λ n e. subst (Says (MatrixPack (stating false)) (MatrixWhy (stating false)) value) e (matrix_said (stating false) value bytes)) parts
  value_means Array parts = pack_means Array (arrayVerdict value) (λ n e. subst (Says ArrayPack ArrayWhy value) e (array_said value bytes)) parts
  value_means Unknown parts = refused_means w Unknown UnknownKey

-- what stands behind a key
module _ (w : List ℕ) (found : Kind) (t : List ℕ) (bytes : Bytes t) (key : w ≡ key_of found ++ t) where
  length_means : (length' : Result Length NoLength) → length_of t ≡ length' → Means w (length_answer found length' t)
  length_means (Err Missing) e = refused_means w found FrameShort
  length_means (Err WrongForm) e = refused_means w found LengthForm
  length_means (ResultOk stated) e =
      let n = stated.value in
      let k = stated.octets in
      let form = subst (Shortest t) e (length_shortest t bytes) in
      by_test (Means w) (eqb (length t) (k + n)) (value_answer found (drop k t)) (refusing found LengthDiffers)
      (λ s.
      let value = drop k t in
      let count : length value ≡ n = length-drop k t ∙ omega (arith, eqb-true (length t) (k + n) s) in
      let parts : t ≡ shortest (length value) ++ value = sym (take-append-drop k t) ∙ ap (λ (l : List ℕ). l ++ value) (form.0 ∙ ap shortest (sym count)) in
      value_means w value (below_drop k t bytes) found (key ∙ ap (λ (l : List ℕ). key_of found ++ l) parts))
      (λ _. refused_means w found LengthDiffers)

-- a key that is known is the kind's
kind_key : (key : List ℕ) (found : Kind) → kind_of key ≡ found → (found ≡ Unknown → ⊥) → key ≡ key_of found
kind_key key found =
    by_test (λ (k : Kind). k ≡ found → (found ≡ Unknown → ⊥) → key ≡ key_of found) (same key matrix_key) Matrix _
    (λ s e _. same_equal key matrix_key s ∙ ap key_of e)
    (λ _. by_test (λ (k : Kind). k ≡ found → (found ≡ Unknown → ⊥) → key ≡ key_of found) (same key array_key) Array Unknown
    (λ s e _. same_equal key array_key s ∙ ap key_of e) (λ _ e not. absurd (not (sym e))))

module _ (w : List ℕ) (b : Bytes w) where
  key_means : (found : Kind) → kind_of (take 16 w) ≡ found → Means w (key_answer found (drop 16 w))
  key_means Matrix e =
      let key = kind_key (take 16 w) Matrix e (λ z. let u : ◌≡◌ {A = ℕ} 0 1 = cc in absurd (omega arith)) in
      length_means w Matrix (drop 16 w) (below_drop 16 w b) (sym (take-append-drop 16 w) ∙ ap (λ (l : List ℕ). l ++ drop 16 w) key) (length_of (drop 16 w)) refl
  key_means Array e =
      let key = kind_key (take 16 w) Array e (λ z. let u : ◌≡◌ {A = ℕ} 0 1 = cc in absurd (omega arith)) in
      length_means w Array (drop 16 w) (below_drop 16 w b) (sym (take-append-drop 16 w) ∙ ap (λ (l : List ℕ). l ++ drop 16 w) key) (length_of (drop 16 w)) refl
  key_means Unknown e = refused_means w Unknown UnknownKey

  answer_means : Means w (answer_of w)
  answer_means =
      by_test (Means w) (ltb longest (length w)) (refusing Unknown FrameLong) _ (λ _. refused_means w Unknown FrameLong)
      (λ _. by_test (Means w) (ltb (length w) 16) (refusing Unknown FrameShort) _ (λ _. refused_means w Unknown FrameShort) (λ _. key_means (kind_of (take 16 w)) refl))

-- ---- a frame is answered `OK`

-- a whole value
value_okay : (kind : Kind) (pack : List ℕ) → PackOf kind pack → value_answer kind pack ≡ okay kind (length pack)
value_okay Matrix pack p = let v : matrixVerdict (stating false) pack ≡ Complete (length pack) = ap (matrixVerdict (stating false)) (sym (append-nil pack)) ∙ matrix_complete (stating false) pack [] p in rw (v, eq-eqb (length pack) (length pack) refl)
value_okay Array pack p = let v : arrayVerdict pack ≡ Complete (length pack) = ap arrayVerdict (sym (append-nil pack)) ∙ array_complete pack [] p in rw (v, eq-eqb (length pack) (length pack) refl)
value_okay Unknown pack p = absurd p

pack_short : (kind : Kind) (pack : List ℕ) → PackOf kind pack → length pack ≤ 32797
pack_short Matrix pack p = omega (arith, matrix_short (stating false) pack p)
pack_short Array pack p = array_short pack p
pack_short Unknown pack p = absurd p

-- behind its key
length_okay : (kind : Kind) (pack : List ℕ) → PackOf kind pack → let t = shortest (length pack) ++ pack in length_answer kind (length_of t) t ≡ okay kind (length pack)
length_okay kind pack p =
    let form = shortest (length pack) in
    rw (shortest_read (length pack) pack (omega (arith, pack_short kind pack p)), eq-eqb (length (form ++ pack)) (length form + length pack) (length-append form pack), drop_at form pack (length form) refl)
    (value_okay kind pack p)

key_length : (kind : Kind) → length (key_of kind) ≤ 16
key_length Matrix = omega arith
key_length Array = omega arith
key_length Unknown = omega arith

key_okay : (kind : Kind) (t : List ℕ) → (kind ≡ Unknown → ⊥) → length t ≤ 32800 → answer_of (key_of kind ++ t) ≡ length_answer kind (length_of t) t
unfolding same
key_okay Matrix t not h = rw (le-ltb longest (length (matrix_key ++ t)) (omega arith), le-ltb (length (matrix_key ++ t)) 16 (omega arith))
key_okay Array t not h = rw (le-ltb longest (length (array_key ++ t)) (omega arith), le-ltb (length (array_key ++ t)) 16 (omega arith))
key_okay Unknown t not h = absurd (not refl)

module _ (kind : Kind) (w : List ℕ) (f : Frame kind w) where
  abbrev behind_key : List ℕ
  behind_key = shortest (length f.pack) ++ f.pack

  behind_short : length behind_key ≤ 32800
  behind_short = omega (arith, length-append (shortest (length f.pack)) f.pack, shortest_few (length f.pack), pack_short kind f.pack f.whole)

  pub frame_okay : answer_of w ≡ okay kind (length f.pack)
  frame_okay =
      ap answer_of f.spelled ∙ key_okay kind behind_key (λ e. subst (λ (k : Kind). PackOf k f.pack) e f.whole) behind_short ∙ length_okay kind f.pack f.whole

  -- no frame is longer than the longest
  pub frame_short : length w ≤ longest
  frame_short = omega (arith, ap length f.spelled, length-append (key_of kind) behind_key, key_length kind, behind_short)

-- `OK` is answered exactly for the frames of each kind
pub okay_frames : (kind : Kind) (n : ℕ) (w : List ℕ) → Bytes w → (answer_of w ≡ record { kind = kind; outcome = Ok n }) ↔ FrameOf kind n w
okay_frames kind n w b = (answer_means w b kind n, λ f. frame_okay kind w f.frame ∙ ap (okay kind) f.count)

-- a frame has one kind
pub frame_kind : (kind other : Kind) (w : List ℕ) → Frame kind w → Frame other w → kind ≡ other
frame_kind kind other w f g = ap (λ (a : FrameAnswer). a.kind) (sym (frame_okay kind w f) ∙ frame_okay other w g)
