-- What scaling answers and leaves: by the first rule that is broken, and where all words scale. Assumes nothing.
use Prim.Native.Nat.{ℕ, zero, suc, ◌/◌, ◌^◌, ◌≤◌, ◌<◌}
use mathlib.Core.Path.{◌≡◌, refl, sym, ap, ◌∙◌}
use mathlib.Core.Bool.{Bool, true, false, not, ◌||◌}
use mathlib.Core.List.{List, [], ◌∷◌}
use native.Mathlib.Omega.{arith}
use borrow.Author.Tests.{ne_eqb, lt-ltb, le-ltb}
use lib.Dec.{eqb, ltb}
use lib.IntN.{ℤ, pos}
use lib.ListN.{length, drop, get_or, length-map, get_or-append}
use lib.Seq.{drop_at}
use Rattle.verdict.specs.declared.Reason.{Reason}
use Rattle.verdict.specs.declared.Reason.TheVariants.{ValueLength, ValueRange, SmallBuffer}
use Rattle.verdict.specs.declared.Verdict.{Verdict}
use Rattle.verdict.specs.declared.Verdict.TheVariants.{Complete}
use Rattle.verdict.specs.Lent.{over, left_for}
use Rattle.verdict.specs.Writing.{refusing, decided}
use Rattle.word.specs.Many.{all_below}
use Rattle.word.proofs.Gathered.{below_at}
use Rattle.std.specs.Prelude.{Ok}
use Rattle.rule.specs.Scaled.{scaled_of}
use Rattle.rule.proofs.Signed.{scaled_value}
use Rattle.cwords.specs.Scaling.{less, scaled_all, scale_rows, ScaledInto}

-- an entry of words that are scaled
less_at : (n : ℕ) (words : List ℕ) (i : ℕ) → i < length words → get_or (scaled_all n words) i (pos 0) ≡ less n (get_or words i 0)
less_at n [] i h = absurd (omega arith)
less_at n (word ∷ words) zero h = refl
less_at n (word ∷ words) (suc i) h = less_at n words i (omega arith)

module _ (words : List ℕ) (n : ℕ) (out : List ℤ) where
  abbrev answer : Verdict
  answer = decided (scale_rows n words (length out)) (Complete (length words))

  refused : (reason : Reason) → answer ≡ refusing reason → ScaledInto words n out (refusing reason) out
  refused reason d = record { said = sym d; left = rw d }

  pub length_refused : eqb n 0 || ltb 8 n ≡ true → ScaledInto words n out (refusing ValueLength) out
  unfolding decided
  length_refused h = refused ValueLength (rw h)

  module _ (own : eqb n 0 || ltb 8 n ≡ false) where
    pub word_refused : (all : Bool) → all ≡ all_below (suc (256 ^ n / 2)) words → not all ≡ true → ScaledInto words n out (refusing ValueRange) out
    unfolding decided
    word_refused all is h = refused ValueRange (rw (own, ← is, h))

    module _ (all : Bool) (is : all ≡ all_below (suc (256 ^ n / 2)) words) (h : not all ≡ false) where
      pub room_refused : length out < length words → ScaledInto words n out (refusing SmallBuffer) out
      unfolding decided
      room_refused short = refused SmallBuffer (rw (own, ← is, h, lt-ltb (length out) (length words) short))

      kept : length words ≤ length out → answer ≡ Complete (length words)
      unfolding decided
      kept room = rw (own, ← is, h, le-ltb (length out) (length words) room)

      pub all_scaled : length words ≤ length out → (out' : List ℤ) → out' ≡ over (scaled_all n words) out → ScaledInto words n out (Complete (length words)) out'
      all_scaled room out' e = let d = kept room in record { said = sym d; left = rw d e }

-- ---- words that all scale

module _ (words : List ℕ) (n : ℕ) (least : 1 ≤ n) (most : n ≤ 8) (all : all_below (suc (256 ^ n / 2)) words ≡ true) (out : List ℤ) (room : length words ≤ length out) where
  decides : decided (scale_rows n words (length out)) (Complete (length words)) ≡ Complete (length words)
  unfolding decided
  decides = rw (ne_eqb n 0 (λ e. omega arith), le-ltb 8 n most, all, le-ltb (length out) (length words) room)

  module _ (answer : Verdict) (out' : List ℤ) (s : ScaledInto words n out answer out') where
    -- they are counted
    pub scaled_count : answer ≡ Complete (length words)
    scaled_count = s.said ∙ decides

    stands : out' ≡ over (scaled_all n words) out
    stands = s.left ∙ ap (λ (v : Verdict). left_for v (scaled_all n words) out) decides

    counted : length (scaled_all n words) ≡ length words
    counted = length-map words (less n)

    -- each entry is what scaling its word gives
    pub scaled_each : (i : ℕ) → i < length words → scaled_of (get_or words i 0) n ≡ Ok (get_or out' i (pos 0))
    scaled_each i h =
        let at : get_or out' i (pos 0) ≡ less n (get_or words i 0) =
        ap (λ (l : List ℤ). get_or l i (pos 0)) stands
        ∙ get_or-append (scaled_all n words) (drop (length (scaled_all n words)) out) (pos 0) i (omega (arith, counted))
        ∙ less_at n words i h in
        scaled_value (get_or words i 0) n least most (omega (arith, below_at (suc (256 ^ n / 2)) words all i h)) ∙ ap Ok (sym at)

    -- those behind them stay
    pub scaled_behind : drop (length words) out' ≡ drop (length words) out
    scaled_behind =
        ap (drop (length words)) stands ∙ drop_at (scaled_all n words) (drop (length (scaled_all n words)) out) (length words) counted ∙ ap (λ (k : ℕ). drop k out) counted
