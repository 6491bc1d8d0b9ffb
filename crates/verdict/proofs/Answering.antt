-- An answer is known by the verdict that it says. Assumes nothing.
use Prim.Native.Nat.{ℕ}
use mathlib.Core.Path.{◌≡◌, refl, sym, ap, ◌∙◌}
use Rattle.std.specs.Prelude.{Result, Ok, Err}
use Rattle.std.specs.Result.{IsErrAnd}
use Rattle.verdict.specs.declared.Reason.{Reason}
use Rattle.verdict.specs.declared.Refusal.{Refusal}
use Rattle.verdict.specs.declared.Stop.{Stop}
use Rattle.verdict.specs.declared.Stop.TheVariants.{Unfinished as StopUnfinished, Refused as StopRefused}
use Rattle.verdict.specs.declared.Verdict.{Verdict}
use Rattle.verdict.specs.declared.Verdict.TheVariants.{Complete, Unfinished, Refused}
use Rattle.verdict.specs.Answers.{said, written}
use Rattle.verdict.specs.Writing.{refusing}

-- the reader's answer that says a verdict
abbrev answered : Verdict → Result ℕ Stop
answered (Complete length) = Ok length
answered (Unfinished missing) = Err (StopUnfinished missing)
answered (Refused refusal) = Err (StopRefused refusal)

answered_said : (answer : Result ℕ Stop) → answered (said answer) ≡ answer
answered_said (Ok length) = refl
answered_said (Err (StopUnfinished missing)) = refl
answered_said (Err (StopRefused refusal)) = refl

-- no two answers of a reader say the same
pub said_own : (a b : Result ℕ Stop) → said a ≡ said b → a ≡ b
said_own a b e = sym (answered_said a) ∙ ap answered e ∙ answered_said b

-- the writer's answer in it; 0 where it is none
abbrev wrote : Result ℕ Stop → Result ℕ Refusal
wrote (Ok count) = Ok count
wrote (Err (StopUnfinished missing)) = Ok 0
wrote (Err (StopRefused refusal)) = Err refusal

written_back : (answer : Result ℕ Refusal) → wrote (answered (written answer)) ≡ answer
written_back (Ok count) = refl
written_back (Err refusal) = refl

-- nor two of a writer
pub written_own : (a b : Result ℕ Refusal) → written a ≡ written b → a ≡ b
written_own a b e = sym (written_back a) ∙ ap (λ (v : Verdict). wrote (answered v)) e ∙ written_back b

-- a reason passed on by a writer is refused at no place
pub written_reason : (answer : Result ℕ Refusal) (reason : Reason) → IsErrAnd answer (λ refusal. refusal ≡ record { reason = reason; place = 0 }) → written answer ≡ refusing reason
written_reason (Ok count) reason e = absurd e
written_reason (Err refusal) reason e = ap Refused e
