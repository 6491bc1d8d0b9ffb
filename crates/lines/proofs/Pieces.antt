-- Laws of the characters before the first LF. Assumes nothing.
use Prim.Native.Nat.{ℕ, zero, suc, ◌≤◌, ◌<◌}
use mathlib.Core.Path.{◌≡◌, refl, sym, ap, ◌∙◌}
use mathlib.Core.Bool.{true, false}
use mathlib.Core.List.{List, [], ◌∷◌}
use native.Mathlib.Omega.{arith}
use borrow.Author.Tests.{eq-eqb, eqb-true}
use lib.Dec.{eqb}
use lib.ListN.{length, take, get_or}
use lib.Seq.{length-take-le}
use Rattle.verdict.proofs.Cases.{either}
use Rattle.std.specs.Prelude.{Option, None, Some, unwrap_or}
use Rattle.memchr.specs.Find.{IsFirstByte, is_byte}
use Rattle.lines.specs.Taking.{piece_of}

-- none before LF, and one more of any other character
pub piece_none : (c : ℕ) (chunk : List ℕ) → eqb c 10 ≡ true → piece_of (c ∷ chunk) ≡ []
unfolding piece_of
piece_none c chunk e = rw e

pub piece_more : (c : ℕ) (chunk : List ℕ) → eqb c 10 ≡ false → piece_of (c ∷ chunk) ≡ c ∷ piece_of chunk
unfolding piece_of
piece_more c chunk e = rw e

pub piece_within : (chunk : List ℕ) → length (piece_of chunk) ≤ length chunk
unfolding piece_of
piece_within [] = omega arith
piece_within (c ∷ chunk) = either (eqb c 10) (λ e. rw e (omega arith)) (λ e. rw e (omega (arith, piece_within chunk)))

-- behind them LF stands, or the chunk ends
pub piece_stops : (chunk : List ℕ) → length (piece_of chunk) < length chunk → get_or chunk (length (piece_of chunk)) 0 ≡ 10
piece_stops [] h = absurd (omega arith)
piece_stops (c ∷ chunk) h =
    either (eqb c 10) (λ e. rw (piece_none c chunk e) (eqb-true c 10 e))
    (λ e. let l : length (piece_of chunk) < length chunk = omega (arith, ap length (piece_more c chunk e)) in rw (piece_more c chunk e) (piece_stops chunk l))

-- they are found by a search
searched : (chunk : List ℕ) (to : ℕ) → to ≤ length chunk → ((i : ℕ) → i < to → eqb (get_or chunk i 0) 10 ≡ false) → (to < length chunk → get_or chunk to 0 ≡ 10) → piece_of chunk ≡ take to chunk
unfolding piece_of
searched [] zero h none stops = refl
searched [] (suc to) h none stops = refl
searched (c ∷ chunk) zero h none stops = rw (eq-eqb c 10 (stops (omega arith)))
searched (c ∷ chunk) (suc to) h none stops =
    rw (none 0 (omega arith)) (ap (λ (l : List ℕ). c ∷ l) (searched chunk to (omega arith) (λ i l. none (suc i) (omega arith)) (λ l. stops (omega arith))))

pub found_count : (chunk : List ℕ) (to : ℕ) → to ≤ length chunk → ((i : ℕ) → i < to → eqb (get_or chunk i 0) 10 ≡ false) → (to < length chunk → get_or chunk to 0 ≡ 10) → length (piece_of chunk) ≡ to
found_count chunk to h none stops = ap length (searched chunk to h none stops) ∙ length-take-le to chunk h

no_end : (chunk : List ℕ) (i : ℕ) → (is_byte 10 (get_or chunk i 0) ≡ true → ⊥) → eqb (get_or chunk i 0) 10 ≡ false
no_end chunk i h = either (eqb (get_or chunk i 0) 10) (λ e. absurd (h e)) (λ e. e)

-- as by one for any byte
pub end_found : (chunk : List ℕ) (place : Option ℕ) → IsFirstByte (is_byte 10) chunk place → unwrap_or place (length chunk) ≡ length (piece_of chunk)
end_found chunk None h = sym (found_count chunk (length chunk) (omega arith) (λ i l. no_end chunk i (h i (omega arith) l)) (λ l. absurd (omega arith)))
end_found chunk (Some k) h =
    sym (found_count chunk k (omega (arith, h.0.high)) (λ i l. no_end chunk i (h.0.before i (omega arith) l)) (λ l. eqb-true (get_or chunk k 0) 10 h.1))

-- they are the chunk's front
pub piece_front : (chunk : List ℕ) → take (length (piece_of chunk)) chunk ≡ piece_of chunk
unfolding piece_of
piece_front [] = refl
piece_front (c ∷ chunk) = either (eqb c 10) (λ e. rw e) (λ e. rw (e, piece_front chunk))
