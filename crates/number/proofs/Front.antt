-- The numbers at the front of bytes: what is written stands there, and what is drawn. Assumes nothing.
use Prim.Native.Nat.{ℕ, zero, suc, ◌+◌, ◌-◌, ◌*◌, ◌/◌, ◌%◌, ◌<◌, ◌≤◌}
use mathlib.Core.Path.{◌≡◌, refl, ap, ◌∙◌}
use mathlib.Core.Bool.{Bool}
use mathlib.Core.List.{List, [], ◌∷◌, ◌++◌, append_assoc}
use native.Mathlib.Omega.{arith}
use lib.ListN.{length, get_or, drop, length-append, length-drop}
use lib.Seq.{drop-drop, get_or-drop}
use borrow.Author.Tests.{lt-ltb, le-ltb}
use Rattle.number.specs.Draw.{drawn_number, draw_at}
use Rattle.number.specs.Octets.{high, octets, numbers}
use Rattle.number.specs.Front.{front, Fronts, fronts}
use Rattle.number.proofs.Octets.{Sevens, none, more, begun, high_none, high_more, Shortest, drawn_shortest}

module _ (v d : ℕ) (t : List ℕ) where
  front_goes : front v ((128 + d) ∷ t) ≡ front (v * 128 + d) t
  unfolding front
  front_goes = let e : 128 + d - 128 ≡ d = omega arith in rw (le-ltb (128 + d) 128 (omega arith), e)

  front_ends : d < 128 → front v (d ∷ t) ≡ record { value = v * 128 + d; behind = t }
  unfolding front
  front_ends h = rw (lt-ltb d 128 h)

front_begun : {v : ℕ} → Sevens v → (t : List ℕ) → front 0 (high v ++ t) ≡ front v t
front_begun none t = rw high_none
front_begun (more {v} d l p b) t = rw (high_more v d l p, append_assoc) (front_begun b ((128 + d) ∷ t) ∙ front_goes v d t)

-- a value stands at the front of its octets, whatever is behind them
pub front_octets : (v : ℕ) (t : List ℕ) → front 0 (octets v ++ t) ≡ record { value = v; behind = t }
unfolding octets
front_octets v t =
    let e : v / 128 * 128 + v % 128 ≡ v = omega arith in
    rw append_assoc
    (front_begun (begun (v / 128)) (v % 128 ∷ t)
    ∙ front_ends (v / 128) (v % 128) t (omega arith)
    ∙ ap (λ (n : ℕ). record { value = n; behind = t }) e)

-- ---- a number drawn at a place

module _ (bytes : List ℕ) (place : ℕ) (positive : Bool) (most v next : ℕ) (b : (i : ℕ) → get_or bytes i 0 < 256) (e : draw_at bytes place positive most ≡ drawn_number v next) where
  pub shortest_there : Shortest (drop place bytes) place positive most v next
  shortest_there = drawn_shortest (drop place bytes) place positive most v next (λ i. rw get_or-drop (b (place + i))) e

  -- it stands at the front of the bytes from there
  pub front_drawn : front 0 (drop place bytes) ≡ record { value = v; behind = drop next bytes }
  front_drawn =
      let s = shortest_there in
      rw (s.behind, ← drop-drop) (ap (front 0) s.front ∙ front_octets v (drop (length (octets v)) (drop place bytes)))

  -- it ends within the bytes
  pub drawn_within : place ≤ length bytes → next ≤ length bytes
  drawn_within h =
      let s = shortest_there in
      omega (arith, s.behind, ap length s.front, length-append (octets v) (drop (length (octets v)) (drop place bytes)), length-drop place bytes)

-- ---- numbers one after the other

-- values stand at the front of their numbers, whatever is behind them
pub fronts_numbers : (values t : List ℕ) → fronts (length values) (numbers values ++ t) ≡ record { values = values; behind = t }
unfolding fronts numbers
fronts_numbers [] t = refl
fronts_numbers (v ∷ values) t = rw (append_assoc, front_octets v (numbers values ++ t), fronts_numbers values t)

-- one number more is drawn behind the others
pub fronts_more : (n : ℕ) (w : List ℕ) → fronts (suc n) w ≡ record { values = (fronts n w).values ++ ((front 0 (fronts n w).behind).value ∷ []); behind = (front 0 (fronts n w).behind).behind }
unfolding fronts
fronts_more zero w = refl
fronts_more (suc n) w =
    let first = front 0 w in
    ap (λ (others : Fronts). record { values = first.value ∷ others.values; behind = others.behind }) (fronts_more n first.behind)

-- as many are drawn as were asked for
pub fronts_count : (n : ℕ) (w : List ℕ) → length (fronts n w).values ≡ n
unfolding fronts
fronts_count zero w = refl
fronts_count (suc n) w = ap suc (fronts_count n (front 0 w).behind)
