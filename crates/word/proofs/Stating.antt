-- What reading a word, and judging many, state. Assumes nothing.
use Prim.Native.Nat.{ℕ, ◌*◌, ◌-◌}
use mathlib.Core.Path.{◌≡◌, refl}
use mathlib.Core.Bool.{Bool, true, false, not, cond}
use mathlib.Core.List.{List, [], ◌∷◌}
use lib.Dec.{eqb, ltb}
use lib.ListN.{length}
use Rattle.verdict.specs.declared.Reason.TheVariants.{ValueLength, Disagree}
use Rattle.verdict.specs.Judgement.{judgement}
use Rattle.verdict.specs.Stated.{gives, misses, refuses}
use Rattle.std.specs.Prelude.{Ok, Err}
use Rattle.verdict.specs.declared.Stop.TheVariants.{Unfinished, Refused}
use Rattle.word.specs.Bytes.{word_at, read_of}
use Rattle.word.specs.Many.{many_rows}
use Rattle.word.specs.Stated.{stated_read, stated_judged}

-- 6 above eight bytes; what is missing of its bytes; else the word
pub read_states : (bytes : List ℕ) (place n : ℕ)
    → stated_read (read_of bytes place n) ≡ cond (ltb 8 n) (refuses 6 0) (cond (ltb (length bytes - place) n) (misses (n - (length bytes - place))) (gives (word_at bytes place n ∷ [])))
read_states bytes place n = by (ltb 8 n) (ltb (length bytes - place) n)
  where
    by : (long short : Bool)
        → stated_read (cond long (Err (Refused (record { reason = ValueLength; place = 0 }))) (cond short (Err (Unfinished (n - (length bytes - place)))) (Ok (word_at bytes place n))))
        ≡ cond long (refuses 6 0) (cond short (misses (n - (length bytes - place))) (gives (word_at bytes place n ∷ [])))
    by true short = refl
    by false true = refl
    by false false = refl

-- 6 above eight bytes; 14 where the bytes are not as many as the words have; else nothing
pub judge_states : (n words bytes : ℕ) → stated_judged (judgement (many_rows n words bytes)) ≡ cond (ltb 8 n) (refuses 6 0) (cond (not (eqb bytes (words * n))) (refuses 14 0) (gives []))
judge_states n words bytes = by (ltb 8 n) (not (eqb bytes (words * n)))
  where
    by : (long other : Bool)
        → stated_judged (judgement (record { broken = long; reason = ValueLength } ∷ record { broken = other; reason = Disagree } ∷ []))
        ≡ cond long (refuses 6 0) (cond other (refuses 14 0) (gives []))
    by true other = refl
    by false true = refl
    by false false = refl
