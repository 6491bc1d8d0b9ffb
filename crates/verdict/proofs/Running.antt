-- The law of machines: where a machine keeps its laws, its run's verdict is said of what it accepts, and no other is. Assumes nothing.
use Prim.Native.Nat.{ℕ, zero, suc, ◌≤◌}
use mathlib.Core.Path.{◌≡◌, refl, sym, ap, ◌∙◌, subst}
use mathlib.Core.Logic.{◌↔◌}
use mathlib.Core.List.{List, [], ◌∷◌, ◌++◌, append-nil}
use native.Mathlib.Omega.{arith}
use lib.ListN.{length, length-append}
use Rattle.verdict.specs.declared.Reason.{Reason}
use Rattle.verdict.specs.declared.Verdict.{Verdict}
use Rattle.verdict.specs.declared.Verdict.TheVariants.{Complete}
use Rattle.verdict.specs.Says.{Bytes, NoneWithin, Says, OneReason}
use Rattle.verdict.specs.Machine.{Move, on, done, bad, Moved, Falls, Nears, follow, shift, Accepts, Blames, run, Laws}
use Rattle.verdict.proofs.Saying.{says_one, says_same, says_later}

nothing : (t : List ℕ) → length t ≡ 0 → t ≡ []
nothing [] e = refl
nothing (b ∷ t) e = absurd (omega arith)

module _ {S : Type 0} (step : S → ℕ → Move S) (least : S → ℕ) where
  -- a run over accepted bytes is complete at their count, whatever is appended
  pub accepted_complete : (w t : List ℕ) (s : S) → Accepts step s w → run step least s (w ++ t) ≡ Complete (length w)
  unfolding run Accepts
  accepted_complete [] t s a = absurd a
  accepted_complete (b ∷ w) t s a = go (λ u x. accepted_complete w t u x) (step s b) a.1
    where
      go : ((u : S) → Accepts step u w → run step least u (w ++ t) ≡ Complete (length w)) → (m : Move S) → Moved m (λ u. Accepts step u w) (w ≡ []) (λ r. ⊥)
          → follow m (λ u. run step least u (w ++ t)) ≡ Complete (suc (length w))
      go ih (on u) x = ap (shift 1) (ih u x) ∙ ap Complete (omega arith)
      go ih done x = ap (λ (l : List ℕ). Complete (suc (length l))) (sym x)
      go ih (bad r) x = absurd x

  -- no accepted bytes are the beginning of others
  pub accepted_alone : (w t : List ℕ) (s : S) → Accepts step s w → Accepts step s (w ++ t) → t ≡ []
  accepted_alone w t s a x =
      let e : Complete (length w) ≡ Complete (length (w ++ t)) =
      sym (accepted_complete w t s a) ∙ rw append-nil at (accepted_complete (w ++ t) [] s x) in
      let n : length w ≡ length (w ++ t) = cc in
      nothing t (omega (arith, length-append w t))

module _ {S : Type 0} (step : S → ℕ → Move S) (least : S → ℕ) (Good : S → Type 0) (laws : Laws step least Good) where
  -- what is left of a pack behind a move
  abbrev Left : List ℕ → Move S → Type 0
  Left w move = Moved move (λ t. Accepts step t w) (w ≡ []) (λ r. ⊥)

  -- a move that leads to the refusal of the last of these bytes
  abbrev Blamed : List ℕ → Reason → Move S → Type 0
  Blamed w reason move = Moved move (λ t. Blames step t w reason) ⊥ (λ r. (w ≡ []) × (r ≡ reason))

  -- no accepted bytes are fewer than the state tells
  least_fewest : (w : List ℕ) (s : S) → Good s → Accepts step s w → least s ≤ length w
  unfolding Accepts
  least_fewest [] s g a = absurd a
  least_fewest (b ∷ w) s g a = go (λ t h x. least_fewest w t h x) (step s b) (laws.falls s g b a.0) a.1
    where
      go : ((t : S) → Good t → Accepts step t w → least t ≤ length w) → (m : Move S) → Falls least Good (least s) m → Left w m → least s ≤ suc (length w)
      go ih (on t) f x = omega (arith, ih t f.0 x)
      go ih done f x = omega arith
      go ih (bad r) f x = absurd x

  -- and so many are accepted
  least_reached : (n : ℕ) (s : S) → Good s → least s ≡ n → (w : List ℕ) × (length w ≡ n) × Accepts step s w
  unfolding Accepts
  least_reached zero s g e = let x = laws.nears s g in absurd (go (step s x.0) x.2)
    where
      go : (m : Move S) → Nears least (least s) m → ⊥
      go (on t) near = omega arith
      go done near = omega arith
      go (bad r) near = near
  least_reached (suc n) s g e =
      let x = laws.nears s g in
      let y = go (λ t h d. least_reached n t h d) (step s x.0) (laws.falls s g x.0 x.1) x.2 in
      (x.0 ∷ y.0, ap suc y.1, (x.1, y.2))
    where
      go : ((t : S) → Good t → least t ≡ n → (w : List ℕ) × (length w ≡ n) × Accepts step t w) → (m : Move S) → Falls least Good (least s) m → Nears least (least s) m
          → (w : List ℕ) × (length w ≡ n) × Left w m
      go ih (on t) f near = ih t f.0 (omega arith)
      go ih done f near = ([], omega arith, refl)
      go ih (bad r) f near = absurd near

  -- nothing is no pack
  none_first : (s : S) (bs : List ℕ) → NoneWithin (Accepts step s) bs 1
  unfolding Accepts
  none_first s bs zero l a = a
  none_first s bs (suc k) l a = omega arith

  -- the run's verdict is said of the bytes that the machine accepts
  run_said : (bs : List ℕ) (s : S) → Good s → Bytes bs → Says (Accepts step s) (Blames step s) bs (run step least s bs)
  unfolding run Accepts Blames
  run_said [] s g h =
      let x = least_reached (least s) s g refl in
      record { ending = x.0; ending_count = x.1; finished = x.2; fewest = λ t a. least_fewest t s g a; none = none_first s [] }
  run_said (b ∷ bs) s g h = go (λ t k. run_said bs t k (λ i. h (suc i))) (step s b) refl (laws.falls s g b (h 0))
    where
      go : ((t : S) → Good t → Says (Accepts step t) (Blames step t) bs (run step least t bs)) → (m : Move S) → step s b ≡ m → Falls least Good (least s) m
          → Says (Accepts step s) (Blames step s) (b ∷ bs) (follow m (λ t. run step least t bs))
      go ih (on t) e f =
          says_later (Accepts step s) (Blames step s) (λ a. a) b bs (run step least t bs)
          (says_same (Accepts step t) (λ w. Accepts step s (b ∷ w)) (Blames step t) (λ w. Blames step s (b ∷ w))
          (λ w. ((λ a. (h 0, subst (Left w) (sym e) a)), (λ a. subst (Left w) e a.1)))
          (λ w r x. subst (Blamed w r) (sym e) x)
          bs (run step least t bs) (ih t f.0))
      go ih done e f = record { within = omega arith; pack = (h 0, subst (Left []) (sym e) refl); first = none_first s (b ∷ bs) }
      go ih (bad r) e f =
          let x = least_reached (least s) s g refl in
          record {
            within = omega arith;
            ending = x.0;
            before = x.2;
            hopeless = λ t a. subst (Left t) e a.1;
            none = none_first s (b ∷ bs);
            why = subst (Blamed [] r) (sym e) (refl, refl);
          }

  -- a machine that accepts exactly the packs, and blames by the table, tells the verdict on every string of bytes
  module _ (Pack : List ℕ → Type 0) (Why : List ℕ → Reason → Type 0) (start : S) (good : Good start)
      (packs : (w : List ℕ) → Accepts step start w ↔ Pack w) (reasons : (w : List ℕ) (r : Reason) → Blames step start w r → Why w r) where
    pub verdict_said : (bs : List ℕ) → Bytes bs → Says Pack Why bs (run step least start bs)
    verdict_said bs h = says_same (Accepts step start) Pack (Blames step start) Why packs reasons bs (run step least start bs) (run_said bs start good h)

    -- and no other verdict is said
    pub verdict_only : OneReason Why → (bs : List ℕ) → Bytes bs → (v : Verdict) → Says Pack Why bs v → v ≡ run step least start bs
    verdict_only one bs h v x = says_one Pack Why bs one v (run step least start bs) x (verdict_said bs h)

    -- a pack is complete at its own length, whatever is appended, and begins no other pack
    pub pack_complete : (w t : List ℕ) → Pack w → run step least start (w ++ t) ≡ Complete (length w)
    pack_complete w t p = accepted_complete step least w t start ((packs w).1 p)

    pub pack_alone : (w t : List ℕ) → Pack w → Pack (w ++ t) → t ≡ []
    pack_alone w t p q = accepted_alone step least w t start ((packs w).1 p) ((packs (w ++ t)).1 q)
