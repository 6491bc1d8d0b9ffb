-- The octets of a value, and the drawing of them: what is written is read back with anything behind it, and nothing is read but the shortest form. Assumes nothing.
use Prim.Native.Nat.{ℕ, zero, suc, ◌+◌, ◌*◌, ◌/◌, ◌%◌, ◌<◌, ◌≤◌}
use mathlib.Core.Path.{◌≡◌, refl, ap, ap₂, subst, ◌∙◌}
use mathlib.Core.Bool.{Bool, true}
use mathlib.Core.List.{List, [], ◌∷◌, ◌++◌, append_assoc, append-nil}
use native.Mathlib.Omega.{arith}
use lib.ListN.{length, get_or, drop, length-append}
use lib.Seq.{drop-append_seam}
use borrow.Author.Tests.{eq-eqb, ne_eqb}
use Rattle.std.specs.Prelude.{Result, Err}
use Rattle.verdict.specs.declared.Reason.{Reason}
use Rattle.verdict.specs.declared.Refusal.{Refusal}
use Rattle.number.specs.declared.Effect.{Effect}
use Rattle.number.specs.declared.Number.{Number}
use Rattle.number.specs.declared.Undrawn.{Undrawn}
use Rattle.number.specs.declared.Undrawn.TheVariants.{Cut, Refused}
use Rattle.number.specs.Draw.{drawn_number, after, draw_on}
use Rattle.number.specs.Octets.{high_in, high, octets}
use Rattle.number.proofs.Octet.{Does, ends as octet-ends, goes as octet-goes, fails as octet-fails, does, effect_ends, effect_goes}

-- a bound that is great enough does not matter
high_bound : (f g v : ℕ) → v ≤ f → v ≤ g → high_in f v ≡ high_in g v
unfolding high_in
high_bound zero zero v p q = refl
high_bound zero (suc g) v p q = rw (eq-eqb v 0 (omega arith))
high_bound (suc f) zero v p q = rw (eq-eqb v 0 (omega arith))
high_bound (suc f) (suc g) v p q = rw (high_bound f g (v / 128) (omega arith) (omega arith))

pub high_none : high 0 ≡ []
unfolding high high_in
high_none = refl

high_last : (n v d : ℕ) → d < 128 → 0 < n → n ≡ v * 128 + d → high n ≡ high v ++ ((128 + d) ∷ [])
unfolding high high_in
high_last zero v d h p e = absurd (omega arith)
high_last (suc k) v d h p e =
    let q : suc k / 128 ≡ v = omega arith in let r : suc k % 128 ≡ d = omega arith in
    rw (ne_eqb (suc k) 0 (λ z. omega arith), q, r, high_bound k v v (omega arith) (omega arith))

pub high_more : (v d : ℕ) → d < 128 → 0 < v * 128 + d → high (v * 128 + d) ≡ high v ++ ((128 + d) ∷ [])
high_more v d h p = high_last (v * 128 + d) v d h p refl

pub octets_more : (v d : ℕ) → d < 128 → octets (v * 128 + d) ≡ high v ++ (d ∷ [])
unfolding octets
octets_more v d h = ap₂ (λ (q r : ℕ). high q ++ (r ∷ [])) (omega arith) (omega arith)

pub octets_127 : octets 127 ≡ 127 ∷ []
unfolding octets high high_in
octets_127 = refl

pub octets_128 : octets 128 ≡ 129 ∷ 0 ∷ []
unfolding octets high high_in
octets_128 = refl

-- a value by its octets but the last: none for 0, else one more
pub data Sevens : ℕ → Type 0 where
  none : Sevens 0
  more : {v : ℕ} (d : ℕ) → d < 128 → 0 < v * 128 + d → Sevens v → Sevens (v * 128 + d)

begun_next : (f : ℕ) → ((v : ℕ) → v ≤ f → Sevens v) → (v : ℕ) → v ≤ suc f → Sevens v
begun_next f before zero h = none
begun_next f before (suc k) h =
    let e : suc k / 128 * 128 + suc k % 128 ≡ suc k = omega arith in
    subst Sevens e (more (suc k % 128) (omega arith) (omega arith) (before (suc k / 128) (omega arith)))

begun_below : (f v : ℕ) → v ≤ f → Sevens v
begun_below zero v h = let e : 0 ≡ v = omega arith in subst Sevens e none
begun_below (suc f) v h = begun_next f (begun_below f) v h

pub begun : (v : ℕ) → Sevens v
begun v = begun_below v v (omega arith)

get_D_last : (s : List ℕ) (x i : ℕ) → ((k : ℕ) → get_or s k 0 < 256) → x < 256 → get_or (s ++ (x ∷ [])) i 0 < 256
get_D_last [] x zero h p = p
get_D_last [] x (suc i) h p = omega arith
get_D_last (y ∷ s) x zero h p = h 0
get_D_last (y ∷ s) x (suc i) h p = get_D_last s x i (λ k. h (suc k)) p

begun_bytes : {v : ℕ} → Sevens v → (i : ℕ) → get_or (high v) i 0 < 256
begun_bytes none i = rw high_none (omega arith)
begun_bytes (more {v} d h p b) i = rw (high_more v d h p) (get_D_last (high v) (128 + d) i (λ k. begun_bytes b k) (omega arith))

pub high_bytes : (v i : ℕ) → get_or (high v) i 0 < 256
high_bytes v = begun_bytes (begun v)

pub octets_bytes : (v i : ℕ) → get_or (octets v) i 0 < 256
unfolding octets
octets_bytes v i = get_D_last (high (v / 128)) (v % 128) i (high_bytes (v / 128)) (omega arith)

pub octets_some : (v : ℕ) → 0 < length (octets v)
unfolding octets
octets_some v = rw length-append (omega arith)

module _ (v d place : ℕ) (positive : Bool) (most : ℕ) (t : List ℕ) where
  goes_drawn : 0 < v * 128 + d → (v * 128 + d) * 128 ≤ most → draw_on ((128 + d) ∷ t) place v positive most ≡ draw_on t (place + 1) (v * 128 + d) positive most
  unfolding draw_on
  goes_drawn p h = rw (effect_goes d v positive most p h)

  ends_drawn : d < 128 → (positive ≡ true → 0 < v * 128 + d) → v * 128 + d ≤ most → draw_on (d ∷ t) place v positive most ≡ drawn_number (v * 128 + d) (place + 1)
  unfolding draw_on
  ends_drawn l p h = rw (effect_ends d v positive most l p h)

module _ (place : ℕ) (positive : Bool) (most : ℕ) where
  begun_drawn : {v : ℕ} → Sevens v → (t : List ℕ) → v * 128 ≤ most → draw_on (high v ++ t) place 0 positive most ≡ draw_on t (place + length (high v)) v positive most
  begun_drawn none t h = rw high_none (ap (λ (k : ℕ). draw_on t k 0 positive most) (omega arith))
  begun_drawn (more {v} d l p b) t h =
      rw (high_more v d l p, append_assoc, length-append)
      (begun_drawn b ((128 + d) ∷ t) (omega arith) ∙ goes_drawn v d (place + length (high v)) positive most t p h ∙ ap (λ (k : ℕ). draw_on t k (v * 128 + d) positive most) (omega arith))

pub high_drawn : (v place : ℕ) (positive : Bool) (most : ℕ) (t : List ℕ) → v * 128 ≤ most → draw_on (high v ++ t) place 0 positive most ≡ draw_on t (place + length (high v)) v positive most
high_drawn v place positive most t h = begun_drawn place positive most (begun v) t h

pub octets_drawn : (v place : ℕ) (positive : Bool) (most : ℕ) (t : List ℕ) → (positive ≡ true → 0 < v) → v ≤ most → draw_on (octets v ++ t) place 0 positive most ≡ drawn_number v (place + length (octets v))
unfolding octets
octets_drawn v place positive most t p h =
    let e : v / 128 * 128 + v % 128 ≡ v = omega arith in
    rw (append_assoc, length-append)
    (high_drawn (v / 128) place positive most (v % 128 ∷ t) (omega arith)
    ∙ ends_drawn (v / 128) (v % 128) (place + length (high (v / 128))) positive most t (omega arith) (λ q. rw e (p q)) (rw e h)
    ∙ ap₂ drawn_number e (omega arith))

-- a number drawn stands in its shortest form, and keeps its bounds
pub record Shortest (s : List ℕ) (place : ℕ) (positive : Bool) (most v next : ℕ) : Type 0 where
  pub behind : next ≡ place + length (octets v)
  pub front : s ≡ octets v ++ drop (length (octets v)) s
  pub within : v ≤ most
  pub counts : positive ≡ true → 0 < v

begins : (p t s : List ℕ) → s ≡ p ++ t → s ≡ p ++ drop (length p) s
begins p t s e = rw e (rw drop-append_seam)

high_octet : (v d o : ℕ) (t : List ℕ) → o ≡ 128 + d → o < 256 → 0 < v * 128 + d → high (v * 128 + d) ++ t ≡ high v ++ (o ∷ t)
high_octet v d o t e b p = rw (high_more v d (omega arith) p, e, append_assoc)

-- the ways that drawing goes, from a number begun with a value
module _ (positive : Bool) (most : ℕ) where
  data Draws : List ℕ → ℕ → ℕ → Result Number Undrawn → Type 0 where
    cuts : {place value : ℕ} → Draws [] place value (Err (Cut value))
    ends : {o value : ℕ} {t : List ℕ} {place : ℕ} → o < 128 → (positive ≡ true → 0 < value * 128 + o) → value * 128 + o ≤ most → Draws (o ∷ t) place value (drawn_number (value * 128 + o) (place + 1))
    goes : {o value : ℕ} {t : List ℕ} {place : ℕ} {x : Result Number Undrawn} (d : ℕ) → o ≡ 128 + d → 0 < value * 128 + d → (value * 128 + d) * 128 ≤ most → Draws t (place + 1) (value * 128 + d) x → Draws (o ∷ t) place value x
    fails : {o value : ℕ} {t : List ℕ} {place : ℕ} {reason : Reason} → Draws (o ∷ t) place value (Err (Refused (record { reason = reason; place = place })))

  draws : (s : List ℕ) (place value : ℕ) → Draws s place value (draw_on s place value positive most)
  unfolding draw_on
  draws [] place value = cuts
  draws (o ∷ t) place value = go (does o value positive most) (λ v. draws t (place + 1) v)
    where
      go : {e : Result Effect Reason} → Does o value positive most e → ((v : ℕ) → Draws t (place + 1) v (draw_on t (place + 1) v positive most)) → Draws (o ∷ t) place value (after e place (λ v. draw_on t (place + 1) v positive most))
      go (octet-ends l p h) ih = ends l p h
      go (octet-goes d e p h) ih = goes d e p h (ih (value * 128 + d))
      go octet-fails ih = fails

  begun_refused : {s : List ℕ} {place value : ℕ} {r : Refusal} → Draws s place value (Err (Refused r)) → (place ≤ r.place) × (r.place < place + length s)
  begun_refused (goes d o p h w) = let x = begun_refused w in omega arith
  begun_refused fails = omega arith

  begun_cut : {s : List ℕ} {place value v : ℕ} → Draws s place value (Err (Cut v)) → ((i : ℕ) → get_or s i 0 < 256) → value * 128 ≤ most → (high value ++ s ≡ high v) × (v * 128 ≤ most)
  begun_cut (cuts {value}) b g = (append-nil (high value), g)
  begun_cut (goes {o} {value} {t} d e p h w) b g = rw (← high_octet value d o t e (b 0) p) (begun_cut w (λ i. b (suc i)) h)

  begun_shortest : (start : ℕ) {s : List ℕ} {place value v next : ℕ} → Draws s place value (drawn_number v next) → ((i : ℕ) → get_or s i 0 < 256) → place ≡ start + length (high value) → Shortest (high value ++ s) start positive most v next
  begun_shortest start (ends {o} {value} {t} l p h) b g =
      record {
        behind = rw (octets_more value o l, length-append) (omega arith);
        front = begins (octets (value * 128 + o)) t (high value ++ (o ∷ t)) (rw (octets_more value o l, append_assoc));
        within = h;
        counts = p;
      }
  begun_shortest start (goes {o} {value} {t} {place} d e p h w) b g =
      let far : place + 1 ≡ start + length (high (value * 128 + d)) = rw (high_more value d (omega (arith, b 0)) p, length-append) (omega arith) in
      rw (← high_octet value d o t e (b 0) p) (begun_shortest start w (λ i. b (suc i)) far)

pub drawn_refused : (s : List ℕ) (place : ℕ) (positive : Bool) (most : ℕ) (r : Refusal) → draw_on s place 0 positive most ≡ Err (Refused r) → (place ≤ r.place) × (r.place < place + length s)
drawn_refused s place positive most r e = begun_refused positive most (rw e at (draws positive most s place 0))

pub drawn_cut : (s : List ℕ) (place : ℕ) (positive : Bool) (most v : ℕ) → ((i : ℕ) → get_or s i 0 < 256) → draw_on s place 0 positive most ≡ Err (Cut v) → (s ≡ high v) × (v * 128 ≤ most)
drawn_cut s place positive most v b e = rw high_none at (begun_cut positive most (rw e at (draws positive most s place 0)) b (omega arith))

pub drawn_shortest : (s : List ℕ) (place : ℕ) (positive : Bool) (most v next : ℕ) → ((i : ℕ) → get_or s i 0 < 256) → draw_on s place 0 positive most ≡ drawn_number v next → Shortest s place positive most v next
drawn_shortest s place positive most v next b e = rw high_none at (begun_shortest positive most place (rw e at (draws positive most s place 0)) b (rw high_none (omega arith)))
