-- The run through a bit vector: to its last byte with all its ones, or to the end of the bytes with those seen. Assumes nothing.
use Prim.Native.Nat.{ℕ, zero, suc, ◌+◌, ◌<◌}
use mathlib.Core.Path.{◌≡◌, refl, ap₂, ◌∙◌}
use mathlib.Core.List.{List}
use native.Mathlib.Numerals.{add-one}
use native.Mathlib.Omega.{arith}
use lib.ListN.{length, take, drop, get_or}
use lib.Seq.{drop-cons}
use Rattle.verdict.specs.declared.Verdict.TheVariants.{Unfinished}
use Rattle.verdict.proofs.Reaching.{reach_cut, reach_step}
use Rattle.word.specs.Digits.{digits}
use Rattle.matrix.specs.declared.Fields.{Fields}
use Rattle.matrix.specs.Meaning.{sum}
use Rattle.matrix.specs.Header.{bits}
use Rattle.matrix.specs.Machine.{vector, in_vector, step, least}
use Rattle.matrix.specs.Reached.{verdict_at, verdict_behind}
use Rattle.matrix.proofs.BitVector.{sum_append}
use Rattle.matrix.proofs.Judgements.{behind_on}

-- no byte, no ones
ones_none : (v : List ℕ) → sum (bits (take 0 v)) ≡ 0
unfolding sum bits
ones_none v = refl

module _ (bytes : List ℕ) where
  -- the ones of the first byte and of those behind it
  ones_first : (n place : ℕ) → place < length bytes → sum (bits (take (suc n) (drop place bytes))) ≡ sum (digits 2 8 (get_or bytes place 0)) + sum (bits (take n (drop (place + 1) bytes)))
  unfolding bits
  ones_first n place h = rw (drop-cons bytes place 0 h, add-one) (sum_append (digits 2 8 (get_or bytes place 0)) (bits (take n (drop (suc place) bytes))))

  -- a byte of the vector that is not its last
  vector_next : (f : Fields) (more place sent : ℕ) → place < length bytes → verdict_at (vector f (suc more) sent) bytes place ≡ verdict_at (vector f more (sent + sum (digits 2 8 (get_or bytes place 0)))) bytes (place + 1)
  vector_next f more place sent h = reach_step step least bytes (vector f (suc more) sent) place h ∙ behind_on (vector f more (sent + sum (digits 2 8 (get_or bytes place 0)))) bytes (place + 1)

  pub vector_through : (f : Fields) (more place sent last all : ℕ) → last ≡ place + more → last < length bytes → all ≡ sent + sum (bits (take (suc more) (drop place bytes)))
      → verdict_at (vector f more sent) bytes place ≡ verdict_behind (in_vector f zero all (get_or bytes last 0)) bytes (last + 1)
  vector_through f zero place sent last all e h a =
      let p : place ≡ last = omega arith in
      let s : sent + sum (digits 2 8 (get_or bytes place 0)) ≡ all = omega (arith, ones_first 0 place (omega arith), ones_none (drop (place + 1) bytes)) in
      reach_step step least bytes (vector f zero sent) place (omega arith) ∙ ap₂ (λ (n p : ℕ). verdict_behind (in_vector f zero n (get_or bytes p 0)) bytes (p + 1)) s p
  vector_through f (suc more) place sent last all e h a =
      vector_next f more place sent (omega arith)
      ∙ vector_through f more (place + 1) (sent + sum (digits 2 8 (get_or bytes place 0))) last all (omega arith) h (omega (arith, ones_first (suc more) place (omega arith)))

  pub vector_seen : (f : Fields) (seen more place sent left all : ℕ) → place + seen ≡ length bytes → more ≡ seen + left → all ≡ sent + sum (bits (take seen (drop place bytes)))
      → verdict_at (vector f more sent) bytes place ≡ Unfinished (least (vector f left all))
  vector_seen f zero more place sent left all h l a =
      let s : sent ≡ all = omega (arith, ones_none (drop place bytes)) in
      reach_cut step least bytes (vector f more sent) place (omega arith) ∙ ap₂ (λ (m n : ℕ). Unfinished (least (vector f m n))) (omega arith) s
  vector_seen f (suc seen) zero place sent left all h l a = absurd (omega arith)
  vector_seen f (suc seen) (suc more) place sent left all h l a =
      vector_next f more place sent (omega arith)
      ∙ vector_seen f seen more (place + 1) (sent + sum (digits 2 8 (get_or bytes place 0))) left all (omega arith) (omega arith) (omega (arith, ones_first seen place (omega arith)))
