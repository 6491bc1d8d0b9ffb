-- What reading and addressing state is what the verdict on the bytes states, with the values of a complete pack; and answers that state the same are the same. Assumes nothing.
use Prim.Native.Nat.{ℕ, ◌*◌}
use mathlib.Core.Path.{◌≡◌, refl, sym, ap, ◌∙◌}
use mathlib.Core.Bool.{true, false}
use mathlib.Core.List.{List, [], ◌∷◌, ◌++◌}
use native.Mathlib.Omega.{arith}
use lib.ListN.{length, get_or, take, drop, length-append}
use lib.Seq.{take-append_seam, drop-append_seam}
use Rattle.std.specs.Prelude.{Result, Ok, Err}
use Rattle.verdict.specs.declared.Refusal.{Refusal}
use Rattle.verdict.specs.declared.Stop.{Stop}
use Rattle.verdict.specs.declared.Stop.TheVariants.{Unfinished as StopUnfinished, Refused as StopRefused}
use Rattle.verdict.specs.declared.Verdict.{Verdict}
use Rattle.verdict.specs.declared.Verdict.TheVariants.{Complete, Unfinished, Refused}
use Rattle.verdict.specs.Stated.{gives, refuses, stated_verdict}
use Rattle.verdict.proofs.Stating.{stated_at, misses_one, gives_no_misses, gives_no_refusal, misses_no_refusal, refusal_stated}
use Rattle.array.specs.Decoded.{meaning_of}
use Rattle.array.specs.Offsets.{inside, offset}
use Rattle.array.specs.Machine.{verdict_of}
use Rattle.arraywalk.specs.Stated.{length_in, start_of}
use Rattle.arrayreader.specs.declared.ArrayRead.{ArrayRead}
use Rattle.arrayreader.specs.Reading.{sizes_of, array_read_for, array_read_of, address_for, address_of}
use Rattle.arrayreader.specs.Stated.{array_values, stated_array_read, stated_addressed}

-- ---- reading

-- the values of the meaning that the bytes have, with this verdict on them
abbrev pub read_values : List ℕ → Verdict → List ℕ
read_values bytes verdict = let a = meaning_of bytes in array_values (length a.sizes) (sizes_of a.sizes) a.element (start_of a (length_in verdict)) (length_in verdict)

pub array_read_states : (bytes : List ℕ) → stated_array_read (array_read_of bytes) ≡ stated_verdict (verdict_of bytes) (read_values bytes (verdict_of bytes))
array_read_states bytes = for (verdict_of bytes)
  where
    for : (v : Verdict) → stated_array_read (array_read_for bytes v) ≡ stated_verdict v (read_values bytes v)
    for (Complete n) = refl
    for (Unfinished missing) = refl
    for (Refused refusal) = refl

-- ---- addressing

module _ (bytes indices : List ℕ) where
  -- indices inside give the offset
  pub address_states : inside (meaning_of bytes).sizes indices ≡ true → stated_addressed (address_of bytes indices) ≡ stated_verdict (verdict_of bytes) (offset (meaning_of bytes).sizes indices * (meaning_of bytes).element ∷ [])
  address_states h = for (verdict_of bytes)
    where
      for : (v : Verdict) → stated_addressed (address_for bytes indices v) ≡ stated_verdict v (offset (meaning_of bytes).sizes indices * (meaning_of bytes).element ∷ [])
      for (Complete n) = rw h
      for (Unfinished missing) = refl
      for (Refused refusal) = refl

  -- any others are refused 15 at 0
  pub address_outside : (n : ℕ) → verdict_of bytes ≡ Complete n → inside (meaning_of bytes).sizes indices ≡ false → stated_addressed (address_of bytes indices) ≡ refuses 15 0
  address_outside n e h = ap (λ (v : Verdict). stated_addressed (address_for bytes indices v)) e ∙ rw h

-- ---- one answer for what is stated

-- the same values, one by one
same_values : {v u : List ℕ} → gives v ≡ gives u → v ≡ u
same_values e = cc

-- of lists with as many behind them, the front and what is behind it
module _ (s s₂ r r₂ : List ℕ) (e : s ++ r ≡ s₂ ++ r₂) (k : length s ≡ length s₂) where
  front_same : s ≡ s₂
  front_same = sym (take-append_seam s r) ∙ ap (take (length s)) e ∙ ap (λ (n : ℕ). take n (s₂ ++ r₂)) k ∙ take-append_seam s₂ r₂

  behind_same : r ≡ r₂
  behind_same = sym (drop-append_seam s r) ∙ ap (drop (length s)) e ∙ ap (λ (n : ℕ). drop n (s₂ ++ r₂)) k ∙ drop-append_seam s₂ r₂

module _ (a b : ArrayRead) (e : array_values a.dims a.sizes a.element a.start a.length ≡ array_values b.dims b.sizes b.element b.start b.length) where
  abbrev ends : ArrayRead → List ℕ
  ends x = x.element ∷ x.start ∷ x.length ∷ []

  tail_same : a.sizes ++ ends a ≡ b.sizes ++ ends b
  tail_same = ap (drop 1) e

  as_many : length a.sizes ≡ length b.sizes
  as_many = omega (arith, ap length tail_same, length-append a.sizes (ends a), length-append b.sizes (ends b))

  ends_same : ends a ≡ ends b
  ends_same = behind_same a.sizes b.sizes (ends a) (ends b) tail_same as_many

  read_same : a ≡ b
  read_same =
      λ i. record {
        dims = ap (λ (l : List ℕ). get_or l 0 0) e i;
        sizes = front_same a.sizes b.sizes (ends a) (ends b) tail_same as_many i;
        element = ap (λ (l : List ℕ). get_or l 0 0) ends_same i;
        start = ap (λ (l : List ℕ). get_or l 1 0) ends_same i;
        length = ap (λ (l : List ℕ). get_or l 2 0) ends_same i;
      }

pub array_read_stated : (a b : Result ArrayRead Stop) → stated_array_read a ≡ stated_array_read b → a ≡ b
array_read_stated (Ok a) (Ok b) x = ap (λ (r : ArrayRead). Ok r) (read_same a b (same_values x))
array_read_stated (Ok a) (Err (StopUnfinished m)) x = absurd (gives_no_misses x)
array_read_stated (Ok a) (Err (StopRefused q)) x = absurd (gives_no_refusal x)
array_read_stated (Err (StopUnfinished m)) (Ok b) x = absurd (gives_no_misses (sym x))
array_read_stated (Err (StopUnfinished m)) (Err (StopUnfinished k)) x = ap (λ (n : ℕ). Err (StopUnfinished n)) (misses_one x)
array_read_stated (Err (StopUnfinished m)) (Err (StopRefused q)) x = absurd (misses_no_refusal x)
array_read_stated (Err (StopRefused r)) (Ok b) x = absurd (gives_no_refusal (sym x))
array_read_stated (Err (StopRefused r)) (Err (StopUnfinished k)) x = absurd (misses_no_refusal (sym x))
array_read_stated (Err (StopRefused r)) (Err (StopRefused q)) x = ap (λ (k : Refusal). Err (StopRefused k)) (refusal_stated r q x)

pub addressed_stated : (a b : Result ℕ Stop) → stated_addressed a ≡ stated_addressed b → a ≡ b
addressed_stated (Ok o) (Ok p) x = ap (λ (n : ℕ). Ok n) (stated_at 0 x)
addressed_stated (Ok o) (Err (StopUnfinished m)) x = absurd (gives_no_misses x)
addressed_stated (Ok o) (Err (StopRefused q)) x = absurd (gives_no_refusal x)
addressed_stated (Err (StopUnfinished m)) (Ok p) x = absurd (gives_no_misses (sym x))
addressed_stated (Err (StopUnfinished m)) (Err (StopUnfinished k)) x = ap (λ (n : ℕ). Err (StopUnfinished n)) (misses_one x)
addressed_stated (Err (StopUnfinished m)) (Err (StopRefused q)) x = absurd (misses_no_refusal x)
addressed_stated (Err (StopRefused r)) (Ok p) x = absurd (gives_no_refusal (sym x))
addressed_stated (Err (StopRefused r)) (Err (StopUnfinished k)) x = absurd (misses_no_refusal (sym x))
addressed_stated (Err (StopRefused r)) (Err (StopRefused q)) x = ap (λ (k : Refusal). Err (StopRefused k)) (refusal_stated r q x)
