-- How many coefficients are sent, by the bit vector or without one, against the run. Assumes nothing.
use Prim.Native.Nat.{ℕ, suc, ◌+◌, ◌-◌, ◌*◌, ◌/◌, ◌%◌, ◌^◌, ◌≤◌, ◌<◌, min}
use mathlib.Core.Path.{◌≡◌, sym, ap, ap₂, ◌∙◌}
use mathlib.Core.Bool.{true, false}
use mathlib.Core.List.{List}
use native.Mathlib.Nat.{mul-zero, mul-one}
use native.Mathlib.Omega.{arith}
use borrow.Author.Tests.{eqb-true, not-false}
use lib.Dec.{eqb}
use lib.ListN.{length, take, drop, get_or, length-drop}
use lib.Seq.{get_or-take, get_or-drop, length-take-le}
use Rattle.verdict.specs.Rows.{judged}
use Rattle.verdict.proofs.Judging.{Kept}
use Rattle.verdict.specs.declared.Reason.{Reason}
use Rattle.verdict.specs.declared.Verdict.TheVariants.{Unfinished, Refused}
use Rattle.matrix.specs.declared.Fields.{Fields}
use Rattle.std.specs.Prelude.{Ok, Err}
use Rattle.matrix.specs.Meaning.{pairs, sum, LawfulFields}
use Rattle.matrix.specs.Header.{header_bytes, vector_bytes, bits, marks_of, vector_in, sent_in}
use Rattle.matrix.specs.Table.{vector_rows}
use Rattle.verdict.specs.Judgement.{judgement}
use Rattle.matrix.specs.Machine.{vector, enter, words_of, all_sent_count, enter_values, fewest}
use Rattle.matrix.specs.Reached.{verdict_at, verdict_behind}
use Rattle.matrixhead.specs.Parts.{SentBy}
use Rattle.matrix.proofs.BitVector.{sum_same, sum_first, unused_none}
use Rattle.matrix.proofs.Keeping.{all_most, vector_none, vector_some, vector_most}
use Rattle.matrix.proofs.Values.{all_marked, sparse_marked}
use Rattle.verdict.proofs.Deciding.{judgement_kept}
use Rattle.matrix.proofs.Judgements.{behind_on, behind_kept, behind_broken}
use Rattle.matrix.proofs.Counts.{coefficients_most, fewest_most}
use Rattle.matrix.proofs.Ones.{ones_most}
use Rattle.matrix.proofs.VectorRuns.{vector_through, vector_seen}

-- the bytes of the vector of sparse fields
module _ (f : Fields) (g : LawfulFields f) (sparse : f.cs ≡ true) (count : ℕ) (counted : count ≡ vector_bytes f) where
  count_some : 1 ≤ count
  count_some = omega (arith, counted ∙ vector_some f g.first sparse)

  pub count_pairs : count ≡ (pairs f.n + 7) / 8
  count_pairs = counted ∙ rw sparse (omega arith)

  pub count_most : count ≤ 252
  count_most = omega (arith, counted, vector_most f g)

  -- the coefficients that are at least to come where so many ones were seen take few bytes
  pub fewest_few : (n sent least : ℕ) (seen : List ℕ) → n ≤ count → sent ≡ sum (bits (take n seen)) → least ≡ fewest f sent → least * f.clen ≤ 16128
  fewest_few n sent least seen h e l =
      coefficients_most f least g.first (omega (arith, l, fewest_most f sent (omega (arith, e, ones_most n seen, count_most, h))))

  module _ (bytes : List ℕ) (start : ℕ) (starts : start ≡ header_bytes f) where
    -- the ones of the first bytes behind the header
    ones_from : (n sent : ℕ) → sent ≡ sum (bits (take n (drop start bytes))) → sent ≡ sum (bits (take n (drop (header_bytes f) bytes)))
    ones_from n sent e = e ∙ ap (λ (p : ℕ). sum (bits (take n (drop p bytes)))) starts

    vector_enters : verdict_behind (enter_values f (vector_bytes f)) bytes (header_bytes f) ≡ verdict_at (vector f (count - 1) 0) bytes (header_bytes f)
    vector_enters =
        let e : vector_bytes f ≡ suc (count - 1) = sym counted ∙ omega (arith, count_some) in
        ap (λ (k : ℕ). verdict_behind (enter_values f k) bytes (header_bytes f)) e ∙ behind_on (vector f (count - 1) 0) bytes (header_bytes f)

    -- a vector that is cut
    pub vector_cut : (there sent : ℕ) → start + there ≡ length bytes → there < count → sent ≡ sum (bits (take there (drop start bytes)))
        → verdict_behind (enter_values f (vector_bytes f)) bytes (header_bytes f) ≡ Unfinished (count - there + (f.n * f.slen + fewest f sent * f.clen))
    vector_cut there sent h l e =
        vector_enters ∙ vector_seen bytes f there (count - 1) (header_bytes f) 0 (count - 1 - there) sent (omega (arith, starts)) (omega arith) (ones_from there sent e ∙ omega arith)
        ∙ ap (λ (k : ℕ). Unfinished (k + (f.n * f.slen + fewest f sent * f.clen))) (omega arith)

    -- a vector that is whole
    module _ (sent last b : ℕ) (ends : last + 1 ≡ start + count) (here : last < length bytes) (read : b ≡ get_or bytes last 0) (counts : sent ≡ sum (bits (take count (drop start bytes)))) where
      ones : sent ≡ sum (bits (take count (drop (header_bytes f) bytes)))
      ones = ones_from count sent counts

      vector_whole : verdict_behind (enter_values f (vector_bytes f)) bytes (header_bytes f) ≡ verdict_behind (judged (vector_rows f sent b) (enter (words_of f sent))) bytes (last + 1)
      vector_whole =
          let e : count ≡ suc (count - 1) = omega (arith, count_some) in
          rw read (vector_enters ∙ vector_through bytes f (count - 1) (header_bytes f) 0 last sent (omega (arith, count_some, starts, ends)) here (ones ∙ rw (← e) (omega arith)))

      pub vector_broken : (reason : Reason) → judgement (vector_rows f sent b) ≡ Err reason → verdict_behind (enter_values f (vector_bytes f)) bytes (header_bytes f) ≡ Refused (record { reason = reason; place = last })
      vector_broken reason e =
          vector_whole ∙ behind_broken (vector_rows f sent b) (enter (words_of f sent)) bytes (last + 1) reason e
          ∙ ap (λ (p : ℕ). Refused (record { reason = reason; place = p })) (omega arith)

      -- the ones are the marks', since the unused bits are 0
      vector_marks : Kept (vector_rows f sent b) → sent ≡ sent_in f bytes
      vector_marks k =
          let v = take count (drop (header_bytes f) bytes) in
          let whole : length v ≡ suc (count - 1) = length-take-le count (drop (header_bytes f) bytes) (rw length-drop (omega (arith, starts, ends))) ∙ omega (arith, count_some) in
          let byte : get_or v (count - 1) 0 ≡ b = get_or-take count (drop (header_bytes f) bytes) (count - 1) 0 (omega (arith, count_some)) ∙ get_or-drop (header_bytes f) bytes (count - 1) 0 ∙ ap (λ (p : ℕ). get_or bytes p 0) (omega (arith, count_some, starts, ends)) ∙ sym read in
          let unused : suc (count - 1) * 8 - pairs f.n ≡ vector_bytes f * 8 - pairs f.n = omega (arith, counted, count_some) in
          let zeros = ap₂ (λ (x u : ℕ). x % 2 ^ u) byte unused ∙ eqb-true (b % 2 ^ (vector_bytes f * 8 - pairs f.n)) 0 (not-false (eqb (b % 2 ^ (vector_bytes f * 8 - pairs f.n)) 0) k.0) in
          let first = sum_first (pairs f.n) (bits v) (unused_none v (count - 1) (pairs f.n) whole (omega (arith, count_pairs)) (omega (arith, count_pairs)) zeros) in
          ones ∙ sym (ap (λ (k : ℕ). sum (marks_of f (take k (drop (header_bytes f) bytes)))) (sym counted) ∙ ap sum (sparse_marked f v sparse) ∙ first)

      pub vector_sent : judgement (vector_rows f sent b) ≡ Ok tt → SentBy bytes f sent
      vector_sent e =
          record {
            counted = omega (arith, ones, ones_most count (drop (header_bytes f) bytes), count_most);
            within = omega (arith, counted, starts, ends);
            marked = vector_marks (judgement_kept (vector_rows f sent b) e);
            leads = vector_whole ∙ behind_kept (vector_rows f sent b) (enter (words_of f sent)) bytes (last + 1) e ∙ ap (verdict_behind (enter (words_of f sent)) bytes) (omega (arith, counted, starts, ends));
          }

-- without a vector all are sent, or none where they have no bytes
module _ (f : Fields) where
  pub all_none : f.clen ≡ 0 → 0 ≡ all_sent_count f
  all_none e = rw e (sym (mul-zero (pairs f.n)))

  pub all_each : (f.clen ≡ 0 → ⊥) → pairs f.n ≡ all_sent_count f
  all_each h = let e : min 1 f.clen ≡ 1 = omega arith in rw e (sym (mul-one (pairs f.n)))

  pub all_sent : (bytes : List ℕ) (sent : ℕ) → LawfulFields f → f.cs ≡ false → header_bytes f ≤ length bytes → sent ≡ all_sent_count f → SentBy bytes f sent
  all_sent bytes sent g e h s =
      let none : vector_bytes f ≡ 0 = vector_none f e in
      record {
        counted = omega (arith, s, all_most f g);
        within = omega (arith, none);
        marked = s ∙ sym (ap sum (all_marked f (vector_in f bytes) e) ∙ sum_same (pairs f.n) (min 1 f.clen));
        leads = rw (none, s) (ap (verdict_behind (enter (words_of f (all_sent_count f))) bytes) (omega arith));
      }
