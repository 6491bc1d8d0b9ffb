-- Bytes put at a place part by part: what is done, what is left, and that there is room for each part. Assumes nothing.
use Prim.Native.Nat.{ℕ, suc, ◌+◌, ◌*◌, ◌^◌, ◌≤◌, ◌<◌}
use mathlib.Core.Path.{◌≡◌, refl, sym, ap, ◌∙◌}
use mathlib.Core.List.{List, [], ◌∷◌, ◌++◌, append_assoc, append-nil}
use native.Mathlib.Omega.{arith}
use lib.ListN.{length, drop, get_or, length-append}
use lib.Seq.{drop-cons}
use Rattle.verdict.specs.declared.Refusal.{Refusal}
use Rattle.std.specs.Prelude.{Result, Ok}
use Rattle.verdict.specs.declared.Verdict.TheVariants.{Complete}
use Rattle.verdict.specs.Answers.{written}
use Rattle.verdict.proofs.Answering.{written_own}
use Rattle.verdict.specs.Writing.{put}
use Rattle.verdict.proofs.Putting.{put_none, put_put, length_put}
use Rattle.number.specs.Octets.{octets, numbers}
use Rattle.number.proofs.Counts.{octets_short}

-- of these bytes, put at a place, so many are left from `at` on
pub record PutTo (out₀ : List ℕ) (place : ℕ) (whole : List ℕ) (at : ℕ) (left out : List ℕ) : Type 0 where
  pub done : List ℕ
  pub parts : whole ≡ done ++ left
  pub reached : at ≡ place + length done
  pub is : out ≡ put out₀ place done

module _ (out₀ : List ℕ) (place : ℕ) (whole : List ℕ) where
  pub put_to_none : (at : ℕ) → at ≡ place → PutTo out₀ place whole at whole out₀
  put_to_none at e = record { done = []; parts = refl; reached = omega arith; is = sym (put_none out₀ place) }

  module _ (room : place + length whole ≤ length out₀) (at : ℕ) where
    pub put_to_length : (left out : List ℕ) → PutTo out₀ place whole at left out → length out ≡ length out₀
    put_to_length left out p =
        let l : length whole ≡ length p.done + length left = rw p.parts (length-append p.done left) in
        ap length p.is ∙ length_put out₀ place p.done (omega arith)

    pub put_to_room : (part left out : List ℕ) → PutTo out₀ place whole at (part ++ left) out → at + length part ≤ length out
    put_to_room part left out p =
        let l : length whole ≡ length p.done + (length part + length left) = rw p.parts (simp length-append) in
        omega (arith, p.reached, put_to_length (part ++ left) out p)

    pub put_to_more : (part left out : List ℕ) (at' : ℕ) (out' : List ℕ) → PutTo out₀ place whole at (part ++ left) out → at' ≡ at + length part → out' ≡ put out at part → PutTo out₀ place whole at' left out'
    put_to_more part left out at' out' p a o =
        let l : length whole ≡ length p.done + (length part + length left) = rw p.parts (simp length-append) in
        record {
          done = p.done ++ part;
          parts = p.parts ∙ sym (append_assoc p.done part left);
          reached = rw length-append (omega (arith, p.reached));
          is = o ∙ rw (p.is, p.reached) (put_put out₀ place p.done part (omega arith));
        }

    pub put_to_all : (left out : List ℕ) → left ≡ [] → PutTo out₀ place whole at left out → (at ≡ place + length whole) × (out ≡ put out₀ place whole)
    put_to_all left out e p =
        let done : whole ≡ p.done = p.parts ∙ rw e (append-nil p.done) in
        (p.reached ∙ ap (λ (l : List ℕ). place + length l) (sym done), p.is ∙ ap (put out₀ place) (sym done))

-- ---- numbers one after the other

-- from a number on
pub numbers_from : (values : List ℕ) (i : ℕ) → i < length values → numbers (drop i values) ≡ octets (get_or values i 0) ++ numbers (drop (suc i) values)
unfolding numbers
numbers_from values i h = rw (drop-cons values i 0 h)

pub length_numbers_from : (values : List ℕ) (i : ℕ) → i < length values → length (numbers (drop i values)) ≡ length (octets (get_or values i 0)) + length (numbers (drop (suc i) values))
length_numbers_from values i h = rw (numbers_from values i h) (length-append (octets (get_or values i 0)) (numbers (drop (suc i) values)))

-- ten octets a number of 64 bits
pub numbers_short : (values : List ℕ) → ((i : ℕ) → get_or values i 0 < 2 ^ 64) → length (numbers values) ≤ 10 * length values
unfolding numbers
numbers_short [] h = omega arith
numbers_short (value ∷ values) h = rw length-append (omega (arith, octets_short value (h 0), numbers_short values (λ i. h (suc i))))

pub numbers_none : numbers [] ≡ []
unfolding numbers
numbers_none = refl

-- ---- a writer's answer is complete in one way

module _ (answer : Result ℕ Refusal) (n : ℕ) (e : written answer ≡ Complete n) where
  pub complete_ok : answer ≡ Ok n
  complete_ok = written_own answer (Ok n) e

  pub complete_count : (m : ℕ) → answer ≡ Ok m → m ≡ n
  complete_count m f = let g : ◌≡◌ {A = Result ℕ Refusal} (Ok m) (Ok n) = sym f ∙ complete_ok in cc
