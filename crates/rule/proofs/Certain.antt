-- Laws of a rule: which words keep it, and the first byte that makes it certain that a word does not. Assumes nothing.
use Prim.Native.Nat.{ℕ, zero, suc, ◌+◌, ◌-◌, ◌*◌, ◌/◌, ◌^◌, ◌≤◌, ◌<◌}
use mathlib.Core.Path.{◌≡◌, refl, ◌∙◌, sym, ap}
use mathlib.Core.Bool.{Bool, true, false}
use mathlib.Core.Logic.{inl, inr, ⊎_elim, ◌↔◌}
use mathlib.Core.List.{List, [], ◌∷◌, ◌++◌}
use native.Mathlib.Omega.{arith}
use native.Mathlib.Decide.{dec_lt}
use native.Mathlib.Nat.{pow-suc, zero-div, mul-div_cancel, div-mul-le_self, mul-le-mul_right, one-le-pow, add-zero, sub_self, le_antisymm, lt_of_not-le, le_of_suc-le-suc}
use borrow.Author.Tests.{leb-true, leb-false, le-leb, lt-leb, eqb-true}
use lib.Dec.{leb, eqb, lit<, lit≤}
use lib.Pow.{pow-add}
use lib.ListN.{length, take, drop, replicate, length-append, length-take}
use lib.Seq.{take-add, take-length}
use Rattle.verdict.proofs.Cases.{by_test, or_left}
use Rattle.rule.specs.declared.rules.Rule.{Rule}
use Rattle.word.specs.Digits.{value_on, value_of}
use Rattle.rule.specs.Rules.{cleared, Keeps, admitted, Breaks, BreaksAt, Format, half, single, double, mapped_rule, deviations, coefficients, allowed, ieee_rule, rule_of_deviations, rule_of_coefficients}
use Rattle.rule.specs.Sound.{Sound}
use Rattle.word.proofs.Digits.{Below, below_take, below_drop, value_on_append, value_on_split, value_zeros, value_below, value_spread, value_spread_below}

-- ---- the rules of document 01 are sound

mapped_sound : (n : ℕ) → n ≤ 8 → Sound (mapped_rule n)
mapped_sound n h = record { short = h; signed = inl refl; room = omega (arith, one-le-pow n 256 (omega arith)) }

ieee_sound : (rule : Format → Rule) → Sound (rule half) → Sound (rule single) → Sound (rule double) → (n : ℕ) → Sound (ieee_rule rule n)
ieee_sound rule h s d n =
    by_test Sound (eqb n 2) _ _ (λ _. h) (λ _. by_test Sound (eqb n 4) _ _ (λ _. s) (λ _. by_test Sound (eqb n 8) _ _ (λ _. d) (λ _. mapped_sound 0 (omega arith))))

deviations_sound : (f : Format) → f.bytes ≤ 8 → f.greatest < 256 ^ f.bytes → Sound (deviations f)
deviations_sound f h r = record { short = h; signed = inl refl; room = r }

coefficients_sound : (f : Format) → f.bytes ≤ 8 → 256 ^ f.bytes / 2 * 2 ≡ 256 ^ f.bytes → f.one < 256 ^ f.bytes / 2 → Sound (coefficients f)
coefficients_sound f h e r = record { short = h; signed = inr (e, r); room = omega arith }

pub deviation_sound : (mapped : Bool) (n : ℕ) → allowed mapped n ≡ true → Sound (rule_of_deviations mapped n)
deviation_sound true n h = mapped_sound n (leb-true n 8 h)
deviation_sound false n h =
    ieee_sound deviations (deviations_sound half (lit≤ tt) (lit< tt)) (deviations_sound single (lit≤ tt) (lit< tt)) (deviations_sound double (lit≤ tt) (lit< tt)) n

pub coefficient_sound : (mapped : Bool) (n : ℕ) → allowed mapped n ≡ true → Sound (rule_of_coefficients mapped n)
coefficient_sound true n h = mapped_sound n (leb-true n 8 h)
coefficient_sound false n h =
    ieee_sound coefficients
    (coefficients_sound half (lit≤ tt) refl (lit< tt))
    (coefficients_sound single (lit≤ tt) refl (lit< tt))
    (coefficients_sound double (lit≤ tt) refl (lit< tt))
    n

-- where a length is allowed, it is the rule's
ieee_length : (rule : Format → Rule) → ((f : Format) → (rule f).length ≡ f.bytes) → (n : ℕ) → allowed false n ≡ true → (ieee_rule rule n).length ≡ n
ieee_length rule l n h =
    let P : Rule → Type 0 = λ r. r.length ≡ n in
    by_test P (eqb n 2) _ _ (λ e. l half ∙ sym (eqb-true n 2 e))
    (λ e. by_test P (eqb n 4) _ _ (λ g. l single ∙ sym (eqb-true n 4 g))
    (λ g. by_test P (eqb n 8) _ _ (λ k. l double ∙ sym (eqb-true n 8 k)) (λ k. sym (eqb-true n 0 (or_left (eqb n 0) false (rw (e, g, k) at h) refl)))))

pub deviation_length : (mapped : Bool) (n : ℕ) → allowed mapped n ≡ true → (rule_of_deviations mapped n).length ≡ n
deviation_length true n h = refl
deviation_length false n h = ieee_length deviations (λ f. refl) n h

pub coefficient_length : (mapped : Bool) (n : ℕ) → allowed mapped n ≡ true → (rule_of_coefficients mapped n).length ≡ n
coefficient_length true n h = refl
coefficient_length false n h = ieee_length coefficients (λ f. refl) n h

-- ---- a word with its sign cleared

by_sign : (P : ℕ → Type 0) (s w : ℕ) → (s ≤ w → P (w - s)) → (w < s → P w) → P (cleared s w)
by_sign P s w f g = by_test P (leb s w) (w - s) w (λ e. f (leb-true s w e)) (λ e. g (leb-false s w e))

pub cleared_le : (s w : ℕ) → cleared s w ≤ w
cleared_le s w = by_sign (λ x. x ≤ w) s w (λ h. omega arith) (λ h. omega arith)

pub cleared_back : (s w : ℕ) → w ≤ cleared s w + s
cleared_back s w = by_sign (λ x. w ≤ x + s) s w (λ h. omega arith) (λ h. omega arith)

-- what stands below the sign's place is kept
pub cleared_scaled : (m v p r : ℕ) → r < p → cleared (m * p) (v * p + r) ≡ cleared m v * p + r
cleared_scaled m v p r h =
    by_sign (λ x. cleared (m * p) (v * p + r) ≡ x * p + r) m v
    (λ k. let e : v ≡ v - m + m = omega arith in
    let l : v * p ≡ (v - m) * p + m * p = ap (λ (x : ℕ). x * p) e ∙ omega arith in
    simp (le-leb (m * p) (v * p + r) (omega arith)) (omega arith))
    (λ k. simp (lt-leb (m * p) (v * p + r) (omega (arith, mul-le-mul_right p k))))

-- the first of what holds at n and not at 0
first : (P : ℕ → Type 0) → ((n : ℕ) → Dec (P n)) → (P 0 → ⊥) → (n : ℕ) → P n → (i : ℕ) × (i < n) × P (suc i) × (P i → ⊥)
first P d z zero p = absurd (z p)
first P d z (suc n) p = by (d n) (λ q. first P d z n q)
  where
    by : Dec (P n) → (P n → (i : ℕ) × (i < n) × P (suc i) × (P i → ⊥)) → (i : ℕ) × (i < suc n) × P (suc i) × (P i → ⊥)
    by (yes q) f = let r = f q in (r.0, omega (arith, r.1), r.2, r.3)
    by (no q) f = (n, omega arith, p, q)

module _ (rule : Rule) where
  pub admitted_keeps : (word : ℕ) → (admitted rule word ≡ true) ↔ Keeps rule word
  admitted_keeps word = (leb-true (cleared rule.sign word) rule.greatest, le-leb (cleared rule.sign word) rule.greatest)

  -- nothing is broken before the first byte
  breaks_none : Breaks rule [] → ⊥
  unfolding value_on
  breaks_none h = omega (arith, cleared_le rule.sign (0 * 256 ^ (rule.length - 0)))

  -- what is not broken ends lawfully, with zeros
  pub unbroken_ends : (begun : List ℕ) → (Breaks rule begun → ⊥) → Keeps rule (value_of 256 (begun ++ replicate (rule.length - length begun) 0))
  unbroken_ends begun h = rw (value_on_append, value_zeros) (omega arith)

  -- a whole word breaks its rule or keeps it
  breaks_whole : (w : List ℕ) → length w ≡ rule.length → Breaks rule w ↔ (Keeps rule (value_of 256 w) → ⊥)
  breaks_whole w e =
      let z : value_of 256 w * 256 ^ (rule.length - length w) ≡ value_of 256 w = rw (e, sub_self) (omega arith) in
      rw z (omega arith)

  pub breaks_somewhere : (w : List ℕ) → length w ≡ rule.length → (Keeps rule (value_of 256 w) → ⊥) → (i : ℕ) × BreaksAt rule w i
  breaks_somewhere w e h =
      let f = first (λ n. Breaks rule (take n w)) (λ n. dec_lt rule.greatest (cleared rule.sign (value_of 256 (take n w) * 256 ^ (rule.length - length (take n w)))))
      breaks_none (length w) (rw take-length ((breaks_whole w e).1 h)) in
      (f.0, record { within = f.1; broken = f.2; before = f.3 })

  module _ (sound : Sound rule) where
    pub keeps_fits : (word : ℕ) → Keeps rule word → word < 256 ^ rule.length
    keeps_fits word h =
        ⊎_elim (λ e. omega (arith, cleared_back rule.sign word, sound.room)) (λ e. omega (arith, cleared_back rule.sign word, e.0)) sound.signed

    -- the sign stands in the first byte
    pub sign_whole : (k : ℕ) → k < rule.length → rule.sign ≡ rule.sign / 256 ^ k * 256 ^ k
    sign_whole k h =
        let q : ℕ = 256 ^ (rule.length - suc k) in
        let l : rule.length ≡ suc (rule.length - suc k) + k = omega arith in
        let m : 256 ^ rule.length ≡ q * 256 * 256 ^ k =
        ap (λ (n : ℕ). 256 ^ n) l ∙ pow-add 256 (suc (rule.length - suc k)) k ∙ ap (λ (n : ℕ). n * 256 ^ k) (pow-suc 256 (rule.length - suc k)) in
        ⊎_elim
        (λ (e : rule.sign ≡ 0). rw (e, zero-div) (omega arith))
        (λ e. let s : rule.sign ≡ q * 128 * 256 ^ k = omega (arith, e.0) in
        s ∙ ap (λ (n : ℕ). n * 256 ^ k) (sym (ap (λ (n : ℕ). n / 256 ^ k) s ∙ mul-div_cancel (q * 128) (one-le-pow k 256 (omega arith)))))
        sound.signed

    -- a word whose last k bytes are r, with its sign cleared
    pub cleared_first : (k v r : ℕ) → k < rule.length → r < 256 ^ k → cleared rule.sign (v * 256 ^ k + r) ≡ cleared (rule.sign / 256 ^ k) v * 256 ^ k + r
    cleared_first k v r h l = ap (λ (s : ℕ). cleared s (v * 256 ^ k + r)) (sign_whole k h) ∙ cleared_scaled (rule.sign / 256 ^ k) v (256 ^ k) r l

    -- whatever follows a broken beginning, the word stays broken
    breaks_after : (begun more : List ℕ) → 0 < length begun → Below 256 more → length begun + length more ≤ rule.length → Breaks rule begun → Breaks rule (begun ++ more)
    breaks_after begun more l f h b =
        let k : ℕ = rule.length - (length begun + length more) in
        let e : rule.length - length begun ≡ length more + k = omega arith in
        let v : ℕ = value_of 256 begun in
        let r : ℕ = value_of 256 more * 256 ^ k in
        let part = ap (λ (n : ℕ). cleared rule.sign (v * 256 ^ n)) e
        ∙ ap (cleared rule.sign) (sym (add-zero (v * 256 ^ (length more + k))))
        ∙ cleared_first (length more + k) v 0 (omega arith) (one-le-pow (length more + k) 256 (omega arith)) in
        let all = ap (λ (n : ℕ). cleared rule.sign (value_of 256 (begun ++ more) * 256 ^ (rule.length - n))) (length-append begun more)
        ∙ ap (cleared rule.sign) (value_spread 256 k begun more)
        ∙ cleared_first (length more + k) v r (omega arith) (value_spread_below 256 k more f) in
        omega (arith, b, part, all)

    breaks_behind : (begun more : List ℕ) → Below 256 more → length begun + length more ≤ rule.length → Breaks rule begun → Breaks rule (begun ++ more)
    breaks_behind [] more f h b = absurd (breaks_none b)
    breaks_behind (x ∷ xs) more f h b = breaks_after (x ∷ xs) more (omega arith) f h b

    pub breaks_certain : (begun rest : List ℕ) → Below 256 rest → length begun + length rest ≡ rule.length → Breaks rule begun → Keeps rule (value_of 256 (begun ++ rest)) → ⊥
    breaks_certain begun rest f e b = (breaks_whole (begun ++ rest) (length-append begun rest ∙ e)).0 (breaks_behind begun rest f (omega arith) b)

    pub breaks_stays : (w : List ℕ) → Below 256 w → length w ≤ rule.length → (i j : ℕ) → i ≤ j → Breaks rule (take i w) → Breaks rule (take j w)
    breaks_stays w f h i j l b =
        let e : j ≡ i + (j - i) = omega arith in
        let t : take j w ≡ take i w ++ take (j - i) (drop i w) = ap (λ (n : ℕ). take n w) e ∙ take-add i (j - i) w in
        let k : length (take i w) + length (take (j - i) (drop i w)) ≤ rule.length = rw (← length-append, ← t, length-take) (omega arith) in
        rw t (breaks_behind (take i w) (take (j - i) (drop i w)) (below_take (j - i) (drop i w) (below_drop i w f)) k b)

    module _ (w : List ℕ) (bytes : Below 256 w) (whole : length w ≤ rule.length) where
      not_later : {i j : ℕ} → BreaksAt rule w i → BreaksAt rule w j → j ≤ i
      not_later {i} {j} x y = le_of_suc-le-suc (lt_of_not-le (λ h. y.before (breaks_stays w bytes whole (suc i) j h x.broken)))

      pub breaks_at_one : {i j : ℕ} → BreaksAt rule w i → BreaksAt rule w j → i ≡ j
      breaks_at_one x y = le_antisymm (not_later y x) (not_later x y)

    pub first_settles : (b : ℕ) (rest : List ℕ) → Below 256 rest → suc (length rest) ≡ rule.length
        → cleared (rule.sign / 256 ^ length rest) b < rule.greatest / 256 ^ length rest → Keeps rule (value_of 256 (b ∷ rest))
    unfolding value_on
    first_settles b rest f e h =
        let p : ℕ = 256 ^ length rest in
        let v : value_of 256 (b ∷ rest) ≡ b * 256 ^ length rest + value_of 256 rest = value_on_split 256 (0 * 256 + b) rest ∙ omega arith in
        omega (
          arith,
          ap (cleared rule.sign) v ∙ cleared_first (length rest) b (value_of 256 rest) (omega arith) (value_below 256 rest f),
          mul-le-mul_right p h,
          div-mul-le_self rule.greatest p,
          value_below 256 rest f,
        )
