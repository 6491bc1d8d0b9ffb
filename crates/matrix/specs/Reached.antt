-- For private functions alone: the states that the machine of matrix packs can be in, and the verdict from a state that it has reached at a place.
use Rattle.std.specs.Prelude.{ℕ, suc, ◌-◌, ◌*◌, ◌^◌, ◌≤◌, ◌<◌, ◌≡◌, true, ◌⊎◌, List, [], ◌∷◌}
use Rattle.verdict.specs.declared.Verdict.{Verdict}
use Rattle.verdict.specs.Machine.{Move}
use Rattle.verdict.specs.Reaching.{reach, led}
use Rattle.rule.specs.Sound.{Sound}
use Rattle.matrix.specs.declared.Fields.{Fields}
use Rattle.matrix.specs.Meaning.{LawfulFirst, LawfulFields}
use Rattle.matrix.specs.Header.{vector_bytes}
use Rattle.matrix.specs.Machine.{Run, State, size, control1, control2, vector, word, step, least}

-- a run of words that code can count
pub record GoodRun (run : Run) : Type 0 where
  pub sound : Sound run.rule
  pub counted : run.count ≤ 2016

abbrev pub GoodRuns : List Run → Type 0
GoodRuns [] = Unit {0}
GoodRuns (run ∷ runs) = GoodRun run × GoodRuns runs

pub record GoodVector (f : Fields) (more sent : ℕ) : Type 0 where
  pub fields : LawfulFields f
  pub sparse : f.cs ≡ true
  pub within : suc more ≤ vector_bytes f
  pub counted : sent ≤ (vector_bytes f - suc more) * 8

pub record GoodWord (more sign top : ℕ) (run : Run) (runs : List Run) : Type 0 where
  pub short : suc more ≤ 8
  pub signed : (sign ≡ 0) ⊎ ((sign ≡ 128) × (top < 128 * 256 ^ more))
  pub room : top < 256 ^ suc more
  pub first : GoodRun run
  pub others : GoodRuns runs

-- the states that a machine can be in
abbrev pub Good : State → Type 0
Good (size told) = Unit {0}
Good (control1 told n) = (1 ≤ n) × (n ≤ 64)
Good (control2 f) = LawfulFirst f
Good (vector f more sent) = GoodVector f more sent
Good (word more sign top run runs) = GoodWord more sign top run runs

-- the verdict on all the bytes from a state that the machine has reached at a place, and behind a move
abbrev pub verdict_at : State → List ℕ → ℕ → Verdict
verdict_at s bytes place = reach step least s bytes place

abbrev pub verdict_behind : Move State → List ℕ → ℕ → Verdict
verdict_behind move bytes place = led step least move bytes place
