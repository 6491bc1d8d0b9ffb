-- A call of `feed` goes forward, stays within what was lent, and is one of the calls that write the report. Assumes nothing.
use Prim.Native.Nat.{ℕ, ◌+◌, ◌≤◌}
use mathlib.Core.Path.{◌≡◌, refl, sym, ap, ap₂, ◌∙◌}
use mathlib.Core.List.{List, [], ◌∷◌, ◌++◌}
use native.Mathlib.Omega.{arith}
use borrow.Author.Tests.{le-ltb}
use lib.Dec.{eqb}
use lib.ListN.{length, take, drop, length-append, length-drop}
use lib.Seq.{take_at}
use Rattle.verdict.proofs.Cases.{by_test}
use Rattle.report.specs.declared.feed.State.{State}
use Rattle.std.specs.Prelude.{Result, Ok, Err}
use Rattle.verdict.specs.declared.Refusal.{Refusal}
use Rattle.report.specs.declared.feed.Fed.{Fed as FedTo}
use Rattle.lines.specs.Taking.{longest_line}
use Rattle.verdict.specs.Writing.{put}
use Rattle.text.specs.Writing.{room}
use Rattle.report.specs.Feeding.{Came, came_of, Fed, FedBy}
use Rattle.report.specs.Passing.{taken_in}
use Rattle.report.proofs.Progress.{came_within}
use Rattle.theorems.specs.Calls.{Calls, more}

-- a call with room for a line takes at least one character of a chunk that has any
pub came_forward : (number held left : ℕ) (buffer chunk : List ℕ) → room ≤ left → 1 ≤ length chunk → 1 ≤ (came_of number held buffer left chunk).taken
unfolding came_of
came_forward number held left buffer [] h l = absurd (omega arith)
came_forward number held left buffer (c ∷ chunk) h l =
    by_test (λ (came : Came). 1 ≤ came.taken) (eqb c 10) _ _ (λ _. rw (le-ltb left room h) (omega arith)) (λ _. omega arith)

-- how much was written
abbrev written_in : Result FedTo Refusal → ℕ
written_in (Ok part) = part.written
written_in (Err refusal) = 0

put_fits : (out text : List ℕ) → length (put out 0 text) ≡ length out → length text ≤ length out
unfolding put
put_fits out text e = omega (arith, e, length-append text (drop (0 + length text) out), length-drop (0 + length text) out)

pub record Forward (chunk out : List ℕ) (taken written : ℕ) : Type 0 where
  pub some : 1 ≤ length chunk → 1 ≤ taken
  pub within : taken ≤ length chunk
  pub room_for : written ≤ length out

pub fed_forward : (state : State) (chunk buffer out : List ℕ) (next : State) (taken written : ℕ) (buffer' out' : List ℕ) → longest_line ≤ length buffer → room ≤ length out → length out' ≡ length out
    → FedBy state chunk buffer out (Ok (record { state = next; taken = taken; written = written })) buffer' out' → Forward chunk out taken written
fed_forward state chunk buffer out next taken written buffer' out' l r e f =
    let came = came_of state.number state.held buffer (length out) chunk in
    let fed : Fed state chunk buffer out (Ok (record { state = next; taken = taken; written = written })) buffer' out' = rw (le-ltb (length buffer) longest_line l, le-ltb (length out) room r) at f in
    let t : taken ≡ came.taken = ap taken_in fed.said in
    let w : written ≡ length came.text = ap written_in fed.said in
    record {
      some = λ h. omega (arith, t, came_forward state.number state.held (length out) buffer chunk r h);
      within = omega (arith, t, came_within chunk state.number state.held (length out) buffer);
      room_for = omega (arith, w, put_fits out came.text (sym (ap length fed.wrote) ∙ e));
    }

abbrev state_in : State → Result FedTo Refusal → State
state_in before (Ok part) = part.state
state_in before (Err refusal) = before

take_put : (out text : List ℕ) → take (length text) (put out 0 text) ≡ text
unfolding put
take_put out text = take_at text (drop (0 + length text) out) (length text) refl

-- a call that `feed` answers goes on with the calls before it: what it took of the chunk, and what stands in the output
pub fed_calls : {input output : List ℕ} (state : State) (chunk buffer out : List ℕ) (next : State) (taken written : ℕ) (buffer' out' : List ℕ) → longest_line ≤ length buffer → room ≤ length out
    → Calls state.number state.held buffer input output → FedBy state chunk buffer out (Ok (record { state = next; taken = taken; written = written })) buffer' out'
    → Calls next.number next.held buffer' (input ++ take taken chunk) (output ++ take written out')
fed_calls {input} {output} state chunk buffer out next taken written buffer' out' l r calls f =
    let came = came_of state.number state.held buffer (length out) chunk in
    let fed : Fed state chunk buffer out (Ok (record { state = next; taken = taken; written = written })) buffer' out' = rw (le-ltb (length buffer) longest_line l, le-ltb (length out) room r) at f in
    let n : next ≡ record { number = came.number; held = came.held } = ap (state_in state) fed.said in
    let t : taken ≡ came.taken = ap taken_in fed.said in
    let w : take written out' ≡ came.text = ap₂ take (ap written_in fed.said) fed.wrote ∙ take_put out came.text in
    let x : Calls came.number came.held came.buffer (input ++ take came.taken chunk) (output ++ came.text) = more calls chunk (length out) came refl in
    rw (n, t, w, fed.keeps) x
