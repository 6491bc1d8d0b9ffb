-- From the calls `frame::examine::examine` and, for C, `frame_verdict` to frames in one step: `OK`, and for C a length below 2^32, is answered exactly for the frames of each kind. Assumes nothing.
use Prim.Native.Nat.{ℕ, ◌^◌, ◌<◌}
use mathlib.Core.Path.{◌≡◌, refl, sym, ap, subst, ◌∙◌}
use mathlib.Core.List.{List}
use mathlib.Core.Logic.{◌↔◌, ◌≢◌}
use native.Mathlib.Omega.{arith}
use contract.Lifetimes.{Lfts}
use borrow.Fn.Kinds.{Dens, res_t, ended_of}
use denote.Triple.Clauses.{AtExit}
use Rattle.verdict.specs.declared.Refusal.{Refusal}
use Rattle.verdict.specs.declared.Verdict.{Verdict}
use Rattle.verdict.specs.declared.Verdict.TheVariants.{Complete, Unfinished, Refused}
use Rattle.verdict.specs.Says.{Bytes}
use Rattle.verdict.specs.Numbers.{packed_of}
use Rattle.verdict.proofs.Numbered.{packed_own}
use Rattle.outcome.specs.declared.Kind.{Kind}
use Rattle.outcome.specs.declared.Kind.TheVariants.{Matrix, Array, Unknown}
use Rattle.outcome.specs.declared.Outcome.{Outcome}
use Rattle.outcome.specs.declared.Outcome.TheVariants.{Ok, Cut, Bad, Open}
use Rattle.outcome.specs.declared.FrameAnswer.{FrameAnswer}
use Rattle.outcome.specs.Letters.{letter_of}
use Rattle.frame.specs.Frame.{answer_of}
use Rattle.cframe.specs.Said.{said_of, FrameSaid}
use Rattle.theorems.specs.Framed.{FrameOf}
use Rattle.theorems.proofs.Framed.{okay_frames}
use Rattle.theorems.proofs.Paper.{Within, frame_within, within_occurs}
use Rattle.frame.proofs.examine.examine.Kinds as examine
use Rattle.frame.proofs.examine.examine.Reads as examine-reads
use Rattle.cframe.proofs.frame_verdict.Kinds as frame-verdict
use Rattle.cframe.proofs.frame_verdict.Reads as frame-verdict-reads

-- what `examine` answers
pub examine_okay : (κs : Lfts 1) (a : Dens κs examine.ps) (answer : (res_t examine.r κs).Denot) (s : AtExit (ended_of 1 examine.ps examine.r) κs)
    → Bytes a.0.now → examine-reads.Post κs a answer s
    → (kind : Kind) (n : ℕ) → (answer ≡ record { kind = kind; outcome = Ok n }) ↔ FrameOf kind n a.0.now
examine_okay κs a answer s b post kind n =
    let exact = okay_frames kind n a.0.now b in
    (λ e. exact.0 (sym post ∙ e), λ f. post ∙ exact.1 f)

-- ---- for C

-- a frame is never open
pub frame_closed : (w : List ℕ) → Bytes w → (answer_of w).outcome ≢ Open
frame_closed w b e = subst Within e (frame_within w b)

-- each kind has its letter
letter_own : (x y : Kind) → letter_of x ≡ letter_of y → x ≡ y
letter_own Matrix Matrix e = refl
letter_own Matrix Array e = absurd (omega arith)
letter_own Matrix Unknown e = absurd (omega arith)
letter_own Array Matrix e = absurd (omega arith)
letter_own Array Array e = refl
letter_own Array Unknown e = absurd (omega arith)
letter_own Unknown Matrix e = absurd (omega arith)
letter_own Unknown Array e = absurd (omega arith)
letter_own Unknown Unknown e = refl

-- the count of a verdict that has one, and the refusal of one that is refused
abbrev count_in : Verdict → ℕ
count_in (Complete n) = n
count_in (Unfinished missing) = missing
count_in (Refused refusal) = 0

abbrev refusal_or : Refusal → Verdict → Refusal
refusal_or other (Complete n) = other
refusal_or other (Unfinished missing) = other
refusal_or other (Refused refusal) = refusal

-- a number below 2^32 is the length of an outcome that is `OK`
number_okay : (o : Outcome) (n : ℕ) → Within o → packed_of (said_of o) ≡ n → n < 2 ^ 32 → o ≡ Ok n
number_okay (Ok k) n h e few = ap Ok (omega arith)
number_okay (Cut missing) n h e few = absurd (omega arith)
number_okay (Bad refusal) n h e few = absurd (omega arith)
number_okay Open n h e few = absurd h

-- what was said as a verdict is one outcome
said_own : (x y : Outcome) → Within x → Within y → said_of x ≡ said_of y → x ≡ y
said_own (Ok n) (Ok k) h g e = ap Ok (ap count_in e)
said_own (Cut n) (Cut k) h g e = ap Cut (ap count_in e)
said_own (Bad r) (Bad q) h g e = ap Bad (ap (refusal_or r) e)
said_own (Ok n) (Cut k) h g e = let z : ◌≡◌ {A = ℕ} 0 1 = cc in absurd (omega arith)
said_own (Ok n) (Bad q) h g e = let z : ◌≡◌ {A = ℕ} 0 1 = cc in absurd (omega arith)
said_own (Cut n) (Ok k) h g e = let z : ◌≡◌ {A = ℕ} 0 1 = cc in absurd (omega arith)
said_own (Cut n) (Bad q) h g e = let z : ◌≡◌ {A = ℕ} 0 1 = cc in absurd (omega arith)
said_own (Bad r) (Ok k) h g e = let z : ◌≡◌ {A = ℕ} 0 1 = cc in absurd (omega arith)
said_own (Bad r) (Cut k) h g e = let z : ◌≡◌ {A = ℕ} 0 1 = cc in absurd (omega arith)
said_own (Ok n) Open h g e = absurd g
said_own (Cut n) Open h g e = absurd g
said_own (Bad r) Open h g e = absurd g
said_own Open y h g e = absurd h

-- the number and the letter tell all that `shelfcheck` says of a frame: frames that have the same have the same answer
pub frame_answer_one : (w x : List ℕ) (number kind : ℕ) → Bytes w → Bytes x → FrameSaid w number kind → FrameSaid x number kind → answer_of w ≡ answer_of x
frame_answer_one w x number kind b c p q =
    let h = frame_within w b in
    let g = frame_within x c in
    let verdicts = packed_own (said_of (answer_of w).outcome) (said_of (answer_of x).outcome) (within_occurs (answer_of w).outcome h) (within_occurs (answer_of x).outcome g) (sym p.said ∙ q.said) in
    let outcomes = said_own (answer_of w).outcome (answer_of x).outcome h g verdicts in
    let kinds = letter_own (answer_of w).kind (answer_of x).kind (sym p.letter ∙ q.letter) in
    λ i. record { kind = kinds i; outcome = outcomes i }

-- what `frame_verdict` answers and leaves in the lent byte
pub frame_verdict_okay : (κs : Lfts 2) (a : Dens κs frame-verdict.ps) (number : (res_t frame-verdict.r κs).Denot) (s : AtExit (ended_of 2 frame-verdict.ps frame-verdict.r) κs)
    → Bytes a.0.now → frame-verdict-reads.Post κs a number s
    → (kind : Kind) (n : ℕ) → n < 2 ^ 32 → ((number ≡ n) × (s.1.0.now ≡ letter_of kind)) ↔ FrameOf kind n a.0.now
frame_verdict_okay κs a number s b post kind n few =
    let w = a.0.now in
    let exact = okay_frames kind n w b in (
      λ e.
          let found : (answer_of w).kind ≡ kind = letter_own (answer_of w).kind kind (sym post.letter ∙ e.1) in
          let okay : (answer_of w).outcome ≡ Ok n = number_okay (answer_of w).outcome n (frame_within w b) (sym post.said ∙ e.0) few in
          exact.0 (λ i. record { kind = found i; outcome = okay i }),
      λ f.
          let is = exact.1 f in
          (post.said ∙ ap (λ (x : FrameAnswer). packed_of (said_of x.outcome)) is ∙ omega arith, post.letter ∙ ap (λ (x : FrameAnswer). letter_of x.kind) is),
    )
