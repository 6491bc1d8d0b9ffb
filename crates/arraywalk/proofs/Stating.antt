-- What a walk states is what its verdict states, with NDim, E, the start and the length of a complete pack; and walks that state the same are the same. Assumes nothing.
use Prim.Native.Nat.{ℕ}
use mathlib.Core.Path.{◌≡◌, refl, sym, ap}
use mathlib.Core.List.{List, [], ◌∷◌}
use lib.ListN.{length}
use Rattle.std.specs.Prelude.{Result, Ok, Err}
use Rattle.verdict.specs.declared.Refusal.{Refusal}
use Rattle.verdict.specs.declared.Stop.{Stop}
use Rattle.verdict.specs.declared.Stop.TheVariants.{Unfinished as StopUnfinished, Refused as StopRefused}
use Rattle.verdict.specs.declared.Verdict.{Verdict}
use Rattle.verdict.specs.declared.Verdict.TheVariants.{Complete, Unfinished, Refused}
use Rattle.verdict.specs.Stated.{stated_verdict}
use Rattle.verdict.proofs.Stating.{stated_at, misses_one, gives_no_misses, gives_no_refusal, misses_no_refusal, refusal_stated}
use Rattle.array.specs.Decoded.{meaning_of}
use Rattle.array.specs.Machine.{verdict_of}
use Rattle.arraywalk.specs.declared.Found.{Found}
use Rattle.arraywalk.specs.Walk.{walked_for, walked_of}
use Rattle.arraywalk.specs.Stated.{stated_walked, length_in, start_of}

-- the verdict, with what a walk finds of a complete pack
abbrev pub walked_values : List ℕ → Verdict → List ℕ
walked_values bytes verdict = let a = meaning_of bytes in length a.sizes ∷ a.element ∷ start_of a (length_in verdict) ∷ length_in verdict ∷ []

pub walked_states : (bytes : List ℕ) → stated_walked (walked_of bytes) ≡ stated_verdict (verdict_of bytes) (walked_values bytes (verdict_of bytes))
walked_states bytes = for (verdict_of bytes)
  where
    for : (v : Verdict) → stated_walked (walked_for bytes v) ≡ stated_verdict v (walked_values bytes v)
    for (Complete n) = refl
    for (Unfinished missing) = refl
    for (Refused refusal) = refl

pub walked_stated : (a b : Result Found Stop) → stated_walked a ≡ stated_walked b → a ≡ b
walked_stated (Ok f) (Ok g) e = λ i. Ok (record { dims = stated_at 0 e i; element = stated_at 1 e i; start = stated_at 2 e i; length = stated_at 3 e i })
walked_stated (Ok f) (Err (StopUnfinished m)) e = absurd (gives_no_misses e)
walked_stated (Ok f) (Err (StopRefused q)) e = absurd (gives_no_refusal e)
walked_stated (Err (StopUnfinished m)) (Ok g) e = absurd (gives_no_misses (sym e))
walked_stated (Err (StopUnfinished m)) (Err (StopUnfinished k)) e = ap (λ (n : ℕ). Err (StopUnfinished n)) (misses_one e)
walked_stated (Err (StopUnfinished m)) (Err (StopRefused q)) e = absurd (misses_no_refusal e)
walked_stated (Err (StopRefused r)) (Ok g) e = absurd (gives_no_refusal (sym e))
walked_stated (Err (StopRefused r)) (Err (StopUnfinished k)) e = absurd (misses_no_refusal (sym e))
walked_stated (Err (StopRefused r)) (Err (StopRefused q)) e = ap (λ (k : Refusal). Err (StopRefused k)) (refusal_stated r q e)
