-- What taking the characters of a chunk up to LF answers and leaves: they are kept in the line buffer, behind those of the open line that are held.
use Rattle.std.specs.Prelude.{ℕ, zero, suc, ◌+◌, min, ◌≡◌, Bool, cond, List, [], ◌∷◌, length, set, eqb, ltb, Result, Ok, Err}
use Rattle.verdict.specs.declared.Reason.TheVariants.{SmallBuffer}
use Rattle.verdict.specs.declared.Refusal.{Refusal}
use Rattle.lines.specs.declared.Taken.{Taken}

-- the greatest count of a line's characters
abbrev pub longest_line : ℕ
longest_line = 65664

-- the characters before the first LF, all where there is none
unfoldable pub piece_of : List ℕ → List ℕ
piece_of [] = []
piece_of (c ∷ chunk) = cond (eqb c 10) [] (c ∷ piece_of chunk)

-- the line buffer with one more character of the open line: past the longest line none is kept
abbrev pub kept : List ℕ → ℕ → ℕ → List ℕ
kept buffer held c = cond (ltb held longest_line) (set buffer held c) buffer

-- and how many are held: one more than the longest line has tells that it ran over
abbrev pub held_on : ℕ → ℕ
held_on held = min (held + 1) (longest_line + 1)

-- the line buffer with so many characters more
unfoldable pub kept_all : List ℕ → ℕ → List ℕ → List ℕ
kept_all buffer held [] = buffer
kept_all buffer held (c ∷ piece) = kept_all (kept buffer held c) (held_on held) piece

-- and how many are held with so many more
unfoldable pub held_all : ℕ → ℕ → ℕ
held_all held zero = held
held_all held (suc count) = held_all (held_on held) count

-- a line buffer that is shorter than the longest line
abbrev pub short : List ℕ → Bool
short buffer = ltb (length buffer) longest_line

-- the characters before the first LF are taken and kept; 13 for a short line buffer, which is as it was
pub record TakenBy (held : ℕ) (chunk buffer : List ℕ) (answer : Result Taken Refusal) (buffer' : List ℕ) : Type 0 where
  pub said : answer ≡ cond (short buffer) (Err (record { reason = SmallBuffer; place = 0 })) (Ok (record { held = held_all held (length (piece_of chunk)); count = length (piece_of chunk) }))
  pub left : buffer' ≡ cond (short buffer) buffer (kept_all buffer held (piece_of chunk))
