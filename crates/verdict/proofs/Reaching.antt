-- Where a run has got to: at the bytes' end it tells what is missing, and below it each byte moves it a place on. Assumes nothing.
use Prim.Native.Nat.{ℕ, suc, ◌+◌, ◌≤◌, ◌<◌}
use mathlib.Core.Path.{◌≡◌, refl, sym, ap, ◌∙◌}
use mathlib.Core.List.{List}
use native.Mathlib.Nat.{add_assoc}
use native.Mathlib.Numerals.{add-one}
use native.Mathlib.Omega.{arith}
use lib.ListN.{length, drop, get_or, drop_of_length-le}
use lib.Seq.{drop-cons}
use Rattle.verdict.specs.declared.Verdict.{Verdict}
use Rattle.verdict.specs.declared.Verdict.TheVariants.{Complete, Unfinished, Refused}
use Rattle.verdict.specs.Machine.{Move, on, done, bad, shift, follow, run}
use Rattle.verdict.specs.Reaching.{reach, led}

pub shift_shift : (i j : ℕ) (v : Verdict) → shift i (shift j v) ≡ shift (i + j) v
shift_shift i j (Complete n) = ap Complete (sym (add_assoc i j n))
shift_shift i j (Unfinished m) = refl
shift_shift i j (Refused r) = ap (λ (p : ℕ). Refused (record { reason = r.reason; place = p })) (sym (add_assoc i j r.place))

pub shift_none : (v : Verdict) → shift 0 v ≡ v
shift_none (Complete n) = ap Complete (omega arith)
shift_none (Unfinished m) = refl
shift_none (Refused r) = ap (λ (p : ℕ). Refused (record { reason = r.reason; place = p })) (omega arith)

module _ {S : Type 0} (step : S → ℕ → Move S) (least : S → ℕ) (bytes : List ℕ) where
  pub reach_start : (s : S) → reach step least s bytes 0 ≡ run step least s bytes
  unfolding reach
  reach_start s = shift_none (run step least s bytes)

  module _ (s : S) (place : ℕ) where
    pub reach_cut : length bytes ≤ place → reach step least s bytes place ≡ Unfinished (least s)
    unfolding reach run
    reach_cut h = rw (drop_of_length-le bytes h)

    pub reach_step : place < length bytes → reach step least s bytes place ≡ led step least (step s (get_or bytes place 0)) bytes (place + 1)
    unfolding reach run led
    reach_step h = rw (drop-cons bytes place 0 h) (go (step s (get_or bytes place 0)))
      where
        go : (m : Move S) → shift place (follow m (λ t. run step least t (drop (suc place) bytes))) ≡ led step least m bytes (place + 1)
        go (on t) = shift_shift place 1 (run step least t (drop (suc place) bytes)) ∙ rw (add-one place)
        go done = refl
        go (bad r) = ap (λ (p : ℕ). Refused (record { reason = r; place = p })) (omega arith)
