-- However reads are cut, what the program has written is the report on what it read; and what it says of a failure. Assumes nothing.
use Prim.Native.Nat.{ℕ, ◌+◌, ◌-◌, ◌^◌, ◌≤◌, ◌<◌, min}
use mathlib.Core.Path.{◌≡◌, refl, sym, ap, ap₂, ◌∙◌, subst}
use mathlib.Core.Bool.{Bool, true, false, cond}
use mathlib.Core.List.{List, [], ◌++◌, append_assoc, append-nil}
use native.Mathlib.Omega.{arith}
use borrow.Author.Tests.{leb-true, le-ltb, ne_eqb}
use lib.Dec.{leb}
use lib.ListN.{length, take, drop, length-take}
use lib.Seq.{drop-drop, take-add, take-take, take_at}
use Rattle.report.specs.declared.feed.State.{State}
use Rattle.std.specs.Prelude.{Result, Ok, Err}
use Rattle.verdict.specs.declared.Refusal.{Refusal}
use Rattle.verdict.specs.Answers.{written}
use Rattle.verdict.proofs.Answering.{written_own}
use Rattle.report.specs.declared.feed.Fed.{Fed as FedTo}
use Rattle.lines.specs.Taking.{longest_line}
use Rattle.report.specs.Feeding.{Fed, FedBy, open_held}
use Rattle.report.proofs.Progress.{fed_within}
use Rattle.report.proofs.Closing.{open_short}
use Rattle.verdict.specs.declared.Verdict.{Verdict}
use Rattle.verdict.specs.declared.Verdict.TheVariants.{Complete}
use Rattle.verdict.specs.Writing.{put, decided, room_rows}
use Rattle.text.specs.declared.Failure.{Failure}
use Rattle.text.specs.Text.{failure_text}
use Rattle.text.specs.Writing.{room, WrittenText}
use Rattle.text.proofs.Decimals.{decimal_short}
use Rattle.text.proofs.Failing.{length_failure}
use Rattle.shelfwork.specs.declared.Ask.{Ask}
use Rattle.shelfwork.specs.declared.Ask.TheVariants.{Read, Write, Say, Stop}
use Rattle.shelfwork.specs.declared.Done.TheVariants.{Read as DoneRead}
use Rattle.shelfwork.specs.declared.Work.{Work}
use Rattle.shelfwork.specs.Work.{begun, asking, chunk_end, left_of, behind_feed, FedLeft, Unfed, FedOn, chunk_read, written_ask, Stopped, number_at, After}
use Rattle.theorems.specs.Report.{report_of}
use Rattle.theorems.specs.Calls.{Calls, none}
use Rattle.theorems.specs.Running.{Lent, Worked, begins, reads, writes, Before, Last}
use Rattle.theorems.proofs.Progress.{fed_calls}
use Rattle.theorems.proofs.Reporting.{calls_report}

-- what stands in the output and is to be written
abbrev pending : Result Ask Refusal → List ℕ → List ℕ
pending (Ok Read) out = []
pending (Ok (Write count)) out = take count out
pending (Ok (Say count)) out = []
pending (Ok Stop) out = []
pending (Err refusal) out = []

-- how the work stands: calls of `feed` have taken the input but for what is left of the chunk, and what came of them was written but for what is to be
record Stood (work : Work) (chunk line out input output : List ℕ) : Type 0 where
  long : longest_line ≤ length line
  wide : room ≤ length out
  going : work.ended ≡ false
  taken : List ℕ
  came : List ℕ
  calls : Calls work.state.number work.state.held line taken came
  took : input ≡ taken ++ left_of work chunk
  wrote : output ++ pending work.ask out ≡ came
  none_left : work.ask ≡ Ok Read → left_of work chunk ≡ []
  since : (count : ℕ) → work.ask ≡ Ok (Write count) → Before work.number input output

-- ---- what is left of a chunk

-- what was taken, and what is left behind it
left_split : (work : Work) (chunk : List ℕ) (state : State) (taken written : ℕ) → taken ≤ length (left_of work chunk) → left_of work chunk ≡ take taken (left_of work chunk) ++ left_of (behind_feed work (Ok (record { state = state; taken = taken; written = written }))) chunk
left_split work chunk state taken written h =
    let from = work.fed in
    let size = chunk_end work chunk - from in
    let within : taken ≤ size = omega (arith, length-take size (drop from chunk)) in
    let parts : taken + (size - taken) ≡ size = omega arith in
    let rest : size - taken ≡ chunk_end work chunk - (from + taken) = omega arith in
    ap (λ (n : ℕ). take n (drop from chunk)) (sym parts) ∙ take-add taken (size - taken) (drop from chunk)
    ∙ ap₂ (λ (xs ys : List ℕ). xs ++ ys) (sym (take-take taken size (drop from chunk) within)) (ap₂ take rest (drop-drop taken from chunk))

-- ---- feeding what is left

module _ (work : Work) (chunk line out taken output : List ℕ) (long : longest_line ≤ length line) (wide : room ≤ length out) (going : work.ended ≡ false) (calls : Calls work.state.number work.state.held line taken output) where
  module _ (line' out' : List ℕ) (lent : Lent line out line' out') where
    abbrev Then : Work → Type 0
    Then work' = Stood work' chunk line' out' (taken ++ left_of work chunk) output

    -- nothing is left
    unfed_stood : leb (chunk_end work chunk) work.fed ≡ true → line' ≡ line → Then (asking work (Ok Read))
    unfed_stood t e =
        let none : left_of work chunk ≡ [] = let z : chunk_end work chunk - work.fed ≡ 0 = omega (arith, leb-true (chunk_end work chunk) work.fed t) in rw z in
        record {
          long = omega (arith, lent.lines);
          wide = omega (arith, lent.outs);
          going = going;
          taken = taken;
          came = output;
          calls = rw e calls;
          took = refl;
          wrote = append-nil output;
          none_left = λ _. none;
          since = λ count a. let z : ◌≡◌ {A = ℕ} 0 1 = cc in absurd (omega arith);
        }

    -- a call took some of it
    fed_stood : (state : State) (count written : ℕ) → FedBy work.state (left_of work chunk) line out (Ok (record { state = state; taken = count; written = written })) line' out' → Then (behind_feed work (Ok (record { state = state; taken = count; written = written })))
    fed_stood state count written f =
        let part = left_of work chunk in
        let within = fed_within work.state part line out (Ok (record { state = state; taken = count; written = written })) line' out' f in
        let next = behind_feed work (Ok (record { state = state; taken = count; written = written })) in
        record {
          long = omega (arith, lent.lines);
          wide = omega (arith, lent.outs);
          going = going;
          taken = taken ++ take count part;
          came = output ++ take written out';
          calls = fed_calls work.state part line out state count written line' out' long wide calls f;
          took = ap (λ (l : List ℕ). taken ++ l) (left_split work chunk state count written within) ∙ sym (append_assoc taken (take count part) (left_of next chunk));
          wrote = refl;
          none_left = λ a. let z : ◌≡◌ {A = ℕ} 0 1 = cc in absurd (omega arith);
          since = λ k a. record { taken = taken; rest = part; begins = refl; held = work.state.held; buffer = line; calls = calls };
        }

    -- none is refused: the memory is long enough
    answer_stood : (answer : Result FedTo Refusal) → FedBy work.state (left_of work chunk) line out answer line' out' → Then (behind_feed work answer)
    answer_stood (Ok part) f = fed_stood part.state part.taken part.written f
    answer_stood (Err refusal) f =
        let fed : Fed work.state (left_of work chunk) line out (Err refusal) line' out' = rw (le-ltb (length line) longest_line long, le-ltb (length out) room wide) at f in
        let said = fed.said in
        let z : ◌≡◌ {A = ℕ} 0 1 = cc in
        absurd (omega arith)

    on_stood : (work' : Work) → FedOn work chunk line out work' line' out' → Then work'
    on_stood work' = go (leb (chunk_end work chunk) work.fed) refl
      where
        go : (t : Bool) → leb (chunk_end work chunk) work.fed ≡ t → cond t (Unfed work line out work' line' out') (FedLeft work chunk line out work' line' out') → Then work'
        go true e u = rw u.stands (unfed_stood e u.same.lines)
        go false e f = rw f.stands (answer_stood f.answer f.feeds)

-- ---- one read or write after the other

first_left : (work : Work) (count : ℕ) (chunk : List ℕ) → count ≤ length chunk → left_of (chunk_read work count) chunk ≡ take count chunk
first_left work count chunk h = let e : min count (length chunk) - 0 ≡ count = omega arith in ap (λ (n : ℕ). take n chunk) e

worked_stood : {work : Work} {chunk line out input output : List ℕ} → Worked work chunk line out input output → Stood work chunk line out input output
worked_stood (begins {chunk} {line} {out} l r) =
    let left : left_of begun chunk ≡ [] = first_left begun 0 chunk (omega arith) in
    record {
      long = l;
      wide = r;
      going = refl;
      taken = [];
      came = [];
      calls = none l;
      took = sym left;
      wrote = refl;
      none_left = λ _. left;
      since = λ count a. let z : ◌≡◌ {A = ℕ} 0 1 = cc in absurd (omega arith);
    }
worked_stood (reads {work} {chunk} {line} {out} {input} {output} before asked chunk' count some within work' line' out' after lent) =
    let s = worked_stood before in
    let took : input ≡ s.taken = s.took ∙ rw (s.none_left asked) (append-nil s.taken) in
    let wrote : output ≡ s.came = sym (append-nil output) ∙ ap (λ (a : Result Ask Refusal). output ++ pending a out) (sym asked) ∙ s.wrote in
    let fed : FedOn (chunk_read work count) chunk' line out work' line' out' = rw (ne_eqb count 0 (λ z. omega arith)) at after in
    let next = on_stood (chunk_read work count) chunk' line out s.taken s.came s.long s.wide s.going s.calls line' out' lent work' fed in
    subst (λ (l : List ℕ). Stood work' chunk' line' out' (l ++ take count chunk') output) (sym took)
    (subst (λ (l : List ℕ). Stood work' chunk' line' out' (s.taken ++ take count chunk') l) (sym wrote)
    (subst (λ (l : List ℕ). Stood work' chunk' line' out' (s.taken ++ l) s.came) (first_left work count chunk' within) next))
worked_stood (writes {work} {chunk} {line} {out} {input} {output} before count asked work' line' out' after lent) =
    let s = worked_stood before in
    let wrote : output ++ take count out ≡ s.came = ap (λ (a : Result Ask Refusal). output ++ pending a out) (sym asked) ∙ s.wrote in
    let fed : FedOn work chunk line out work' line' out' = subst (λ (t : Bool). cond t (Stopped work line out work' line' out') (FedOn work chunk line out work' line' out')) s.going after in
    let next = on_stood work chunk line out s.taken s.came s.long s.wide s.going s.calls line' out' lent work' fed in
    subst (λ (l : List ℕ). Stood work' chunk line' out' l (output ++ take count out)) (sym s.took)
    (subst (λ (l : List ℕ). Stood work' chunk line' out' (s.taken ++ left_of work chunk) l) (sym wrote) next)

-- ---- a text at the front of the output

written_front : (text out out' : List ℕ) (answer : Verdict) → length text ≤ length out → WrittenText text out 0 answer out' → (answer ≡ Complete (length text)) × (take (length text) out' ≡ text)
unfolding decided put
written_front text out out' answer h w =
    let t : decided (room_rows (0 + length text) (length out)) (Complete (length text)) ≡ Complete (length text) = rw (le-ltb (length out) (0 + length text) (omega arith)) in
    (w.said ∙ t, ap (take (length text)) (w.left ∙ rw t) ∙ take_at text (drop (0 + length text) out) (length text) refl)

-- ---- what was written

module _ (work : Work) (chunk line out input output : List ℕ) (worked : Worked work chunk line out input output) where
  -- each time that a read is asked, it is the report on what was read, but for the line that is open
  pub worked_report : work.ask ≡ Ok Read → output ++ open_held work.state.number work.state.held ≡ report_of input
  worked_report asked =
      let s = worked_stood worked in
      let took : input ≡ s.taken = s.took ∙ rw (s.none_left asked) (append-nil s.taken) in
      let wrote : output ≡ s.came = sym (append-nil output) ∙ ap (λ (a : Result Ask Refusal). output ++ pending a out) (sym asked) ∙ s.wrote in
      ap (λ (l : List ℕ). l ++ open_held work.state.number work.state.held) wrote ∙ calls_report s.calls ∙ ap report_of (sym took)

  -- each time that a write is asked, it is the report lines of the lines before the one at which writing would fail
  pub worked_before : (count : ℕ) → work.ask ≡ Ok (Write count) → Before work.number input output
  worked_before = (worked_stood worked).since

  -- at the end of the input the open line's report line is to be written, and with it all is the report on the input; behind that write nothing more is asked
  pub ended_report : work.ask ≡ Ok Read → work.state.number < 2 ^ 64 → (work' : Work) (line' out' : List ℕ) → After work (Ok (DoneRead 0)) chunk line out work' line' out' → Last work' out' (λ (text : List ℕ). output ++ text ≡ report_of input)
  ended_report asked fits work' line' out' a =
      let s = worked_stood worked in
      let e = a.0 in
      let text = open_held work.state.number work.state.held in
      let front = written_front text out out' (written e.answer) (omega (arith, open_short work.state.number work.state.held fits, s.wide)) e.finished in
      record {
        count = length text;
        asked = ap (λ (w : Work). w.ask) e.stands ∙ ap (λ (r : Result ℕ Refusal). written_ask r false) (written_own e.answer (Ok (length text)) front.0);
        last = ap (λ (w : Work). w.ended) e.stands;
        holds = rw front.1 (worked_report asked);
      }

  -- a failure is to be said as the last, with the line at which it was
  pub failed_said : (failure : Failure) → number_at work failure < 2 ^ 64 → (work' : Work) (line' out' : List ℕ) → After work (Err failure) chunk line out work' line' out'
      → let text = failure_text failure (number_at work failure) in (work'.ask ≡ Ok (Say (length text))) × (take (length text) out' ≡ text)
  failed_said failure fits work' line' out' a =
      let s = worked_stood worked in
      let f = a.0 in
      let text = failure_text failure (number_at work failure) in
      let short : length text ≤ room = omega (arith, length_failure failure (number_at work failure), decimal_short (number_at work failure) fits) in
      let front = written_front text out out' (written f.answer) (omega (arith, short, s.wide)) f.written in
      (ap (λ (w : Work). w.ask) f.stands ∙ ap (λ (r : Result ℕ Refusal). written_ask r true) (written_own f.answer (Ok (length text)) front.0), front.1)
