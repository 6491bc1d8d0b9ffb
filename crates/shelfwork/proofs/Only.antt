-- The contract of each function of the work, as the source states it, admits one answer and one state of the lent memory. Assumes nothing.
use Prim.Native.Nat.{ℕ}
use mathlib.Core.Path.{◌≡◌, sym, ap, ◌∙◌}
use mathlib.Core.Bool.{Bool, true, false, cond}
use mathlib.Core.List.{List}
use lib.Dec.{eqb, leb}
use contract.Lifetimes.{Lfts}
use borrow.Fn.Kinds.{Dens, res_t, ended_of}
use denote.Triple.Clauses.{AtExit}
use Rattle.std.specs.Prelude.{Result, Ok, Err}
use Rattle.verdict.specs.declared.Refusal.{Refusal}
use Rattle.verdict.proofs.Answering.{written_own}
use Rattle.text.specs.declared.Failure.{Failure}
use Rattle.verdict.proofs.OneAnswer.{OneAnswer}
use Rattle.report.proofs.Chunks.{fed_one}
use Rattle.shelfwork.specs.declared.Done.{Done}
use Rattle.shelfwork.specs.declared.Done.TheVariants.{Read, Wrote, Said}
use Rattle.shelfwork.specs.declared.Work.{Work}
use Rattle.shelfwork.specs.Work.{chunk_end, left_of, behind_feed, FedLeft, Unfed, FedOn, written_ask, asking, Ended, chunk_read, AfterRead, Stopped, AfterWrite, After}
use Rattle.shelfwork.proofs.begin.Kinds as begin
use Rattle.shelfwork.proofs.begin.Reads as begin-reads
use Rattle.shelfwork.proofs.go_on.Kinds as go_on
use Rattle.shelfwork.proofs.go_on.Reads as go-on-reads

-- the same work, line buffer and output
pub record Alike (work work₁ : Work) (line line₁ out out₁ : List ℕ) : Type 0 where
  pub works : work ≡ work₁
  pub lines : line ≡ line₁
  pub outs : out ≡ out₁

module _ (line out : List ℕ) (w w₁ : Work) (l l₁ o o₁ : List ℕ) where
  fed_on_one : (work : Work) (chunk : List ℕ) → FedOn work chunk line out w l o → FedOn work chunk line out w₁ l₁ o₁ → Alike w w₁ l l₁ o o₁
  fed_on_one work chunk = go (leb (chunk_end work chunk) work.fed)
    where
      go : (t : Bool) → cond t (Unfed work line out w l o) (FedLeft work chunk line out w l o) → cond t (Unfed work line out w₁ l₁ o₁) (FedLeft work chunk line out w₁ l₁ o₁) → Alike w w₁ l l₁ o o₁
      go true p q = record { works = p.stands ∙ sym q.stands; lines = p.same.lines ∙ sym q.same.lines; outs = p.same.outs ∙ sym q.same.outs }
      go false p q =
          let one = fed_one work.state (left_of work chunk) line out p.answer q.answer l l₁ o o₁ p.feeds q.feeds in
          record { works = p.stands ∙ ap (behind_feed work) one.answers ∙ sym q.stands; lines = one.buffers; outs = one.outputs }

  after_read_one : (work : Work) (count : ℕ) (chunk : List ℕ) → AfterRead work count chunk line out w l o → AfterRead work count chunk line out w₁ l₁ o₁ → Alike w w₁ l l₁ o o₁
  after_read_one work count chunk = go (eqb count 0)
    where
      go : (t : Bool) → cond t (Ended work out w o × (l ≡ line)) (FedOn (chunk_read work count) chunk line out w l o) → cond t (Ended work out w₁ o₁ × (l₁ ≡ line)) (FedOn (chunk_read work count) chunk line out w₁ l₁ o₁) → Alike w w₁ l l₁ o o₁
      go true p q =
          let one : p.0.answer ≡ q.0.answer = written_own p.0.answer q.0.answer (p.0.finished.said ∙ sym q.0.finished.said) in
          record {
            works = p.0.stands ∙ ap (λ (v : Result ℕ Refusal). record { ask = written_ask v false; state = work.state; number = work.state.number; length = 0; fed = 0; ended = true }) one ∙ sym q.0.stands;
            lines = p.1 ∙ sym q.1;
            outs = p.0.finished.left ∙ sym q.0.finished.left;
          }
      go false p q = fed_on_one (chunk_read work count) chunk p q

  after_write_one : (work : Work) (chunk : List ℕ) → AfterWrite work chunk line out w l o → AfterWrite work chunk line out w₁ l₁ o₁ → Alike w w₁ l l₁ o o₁
  after_write_one work chunk = go work.ended
    where
      go : (t : Bool) → cond t (Stopped work line out w l o) (FedOn work chunk line out w l o) → cond t (Stopped work line out w₁ l₁ o₁) (FedOn work chunk line out w₁ l₁ o₁) → Alike w w₁ l l₁ o o₁
      go true p q = record { works = p.stands ∙ sym q.stands; lines = p.same.lines ∙ sym q.same.lines; outs = p.same.outs ∙ sym q.same.outs }
      go false p q = fed_on_one work chunk p q

  after_one : (work : Work) (done : Result Done Failure) (chunk : List ℕ) → After work done chunk line out w l o → After work done chunk line out w₁ l₁ o₁ → Alike w w₁ l l₁ o o₁
  after_one work (Ok (Read count)) chunk p q = after_read_one work count chunk p q
  after_one work (Ok Wrote) chunk p q = after_write_one work chunk p q
  after_one work (Ok Said) chunk p q = record { works = p.stands ∙ sym q.stands; lines = p.same.lines ∙ sym q.same.lines; outs = p.same.outs ∙ sym q.same.outs }
  after_one work (Err failure) chunk p q =
      record {
        works = p.0.stands ∙ ap (λ (v : Result ℕ Refusal). asking work (written_ask v true)) (written_own p.0.answer q.0.answer (p.0.written.said ∙ sym q.0.written.said)) ∙ sym q.0.stands;
        lines = p.1 ∙ sym q.1;
        outs = p.0.written.left ∙ sym q.0.written.left;
      }

-- ---- over the contracts

pub begin_only : OneAnswer begin.ps begin.r begin-reads.Post
begin_only κs a x y s t p q = p ∙ sym q

pub go_on_only : (κs : Lfts 3) (a : Dens κs go_on.ps) (x y : (res_t go_on.r κs).Denot) (s t : AtExit (ended_of 3 go_on.ps go_on.r) κs) → go-on-reads.Post κs a x s → go-on-reads.Post κs a y t
    → Alike x y s.1.1.1.0.now t.1.1.1.0.now s.1.1.1.1.0.now t.1.1.1.1.0.now
go_on_only κs a x y s t p q = after_one a.1.1.1.0.now a.1.1.1.1.0.now x y _ _ _ _ a.0 a.1.0 a.1.1.0.now p q
