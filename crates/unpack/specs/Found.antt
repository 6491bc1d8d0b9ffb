-- For private functions alone: what is known of a whole pack that a walk has found, and where its coefficients stand.
use Rattle.std.specs.Prelude.{ℕ, ◌+◌, ◌*◌, ◌≤◌, ◌≡◌, List, length, take}
use Rattle.matrixwalk.specs.declared.Found.{Found}
use Rattle.matrix.specs.Meaning.{Matrix, sum, Lawful}
use Rattle.matrix.specs.Header.{words_from}
use Rattle.matrix.specs.Spelling.{meaning_in}

-- the meaning of what was found
abbrev pub meaning_found : List ℕ → Found → Matrix
meaning_found bytes found = meaning_in found.fields bytes

-- the place of the next coefficient behind so many pairs: those that are sent stand before it
abbrev pub coefficient_at : Matrix → Found → ℕ → ℕ
coefficient_at m found pair = found.words + (m.fields.n * m.fields.slen + sum (take pair m.marks) * m.fields.clen)

-- a lawful pack stands in the bytes
pub record Whole (bytes : List ℕ) (found : Found) : Type 0 where
  pub lawful : Lawful (meaning_found bytes found)
  pub start : found.words ≡ words_from found.fields
  pub within : found.words + (found.fields.n * found.fields.slen + sum (meaning_found bytes found).marks * found.fields.clen) ≤ length bytes
