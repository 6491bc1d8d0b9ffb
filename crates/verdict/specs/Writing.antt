-- What a writer answers, and what it leaves in the lent bytes.
use Rattle.std.specs.Prelude.{ℕ, ◌+◌, ◌≡◌, cond, List, [], ◌∷◌, ◌++◌, length, take, drop, ltb}
use Rattle.verdict.specs.declared.Reason.{Reason}
use Rattle.verdict.specs.declared.Reason.TheVariants.{SmallBuffer}
use Rattle.verdict.specs.declared.Verdict.{Verdict}
use Rattle.verdict.specs.declared.Verdict.TheVariants.{Complete, Unfinished, Refused}
use Rattle.verdict.specs.Rows.{Row}

-- bytes over those at a place
unfoldable pub put : List ℕ → ℕ → List ℕ → List ℕ
put out place bytes = take place out ++ (bytes ++ drop (place + length bytes) out)

-- a refusal that has no place in a pack, as all those of a writer: its place is 0
abbrev pub refusing : Reason → Verdict
refusing reason = Refused (record { reason = reason; place = 0 })

-- refused by the first broken rule; where none is broken, this answer
unfoldable pub decided : List Row → Verdict → Verdict
decided [] answer = answer
decided (row ∷ rows) answer = cond row.broken (refusing row.reason) (decided rows answer)

-- the last rule: 13 where fewer bytes are there than needed
abbrev pub room_rows : ℕ → ℕ → List Row
room_rows needed there = record { broken = ltb there needed; reason = SmallBuffer } ∷ []

-- what a writer leaves: its bytes at the place where it succeeds, else what was there
abbrev pub left_by : Verdict → List ℕ → ℕ → List ℕ → List ℕ
left_by (Complete n) out place bytes = put out place bytes
left_by (Unfinished n) out place bytes = out
left_by (Refused r) out place bytes = out

-- by a writer's rules in their order, and its bytes: the count of them and the bytes at the place, or a refusal and what was there
pub record WrittenBy (rows : List Row) (bytes out : List ℕ) (place : ℕ) (answer : Verdict) (out' : List ℕ) : Type 0 where
  pub said : answer ≡ decided rows (Complete (length bytes))
  pub left : out' ≡ left_by (decided rows (Complete (length bytes))) out place bytes
