-- For private functions alone: what each part of reading the beginning of a matrix pack promises of the run.
use Rattle.std.specs.Prelude.{ℕ, ◌+◌, ◌≤◌, ◌<◌, ◌≡◌, List, [], ◌∷◌, Result, Ok, Err, length}
use Rattle.verdict.specs.declared.Stop.{Stop}
use Rattle.verdict.specs.declared.Stop.TheVariants.{Unfinished as StopUnfinished, Refused as StopRefused}
use Rattle.verdict.specs.declared.Verdict.{Verdict}
use Rattle.verdict.specs.declared.Verdict.TheVariants.{Unfinished, Refused}
use Rattle.matrix.specs.declared.Fields.{Fields}
use Rattle.matrix.specs.declared.Told.{Told}
use Rattle.matrixhead.specs.declared.Begun.{Begun}
use Rattle.matrix.specs.Meaning.{sum, LawfulFields}
use Rattle.matrix.specs.Header.{header_bytes, vector_bytes, bits, fields_of, sent_in, words_from}
use Rattle.matrix.specs.Machine.{enter, enter_values, words_of, verdict_of}
use Rattle.matrix.specs.Reached.{verdict_behind}
use Rattle.matrixhead.specs.Beginning.{before}

-- the verdict where there is no more: bytes are missing before a place, or one before it is refused
abbrev pub StopsBefore : ℕ → Verdict → List ℕ → Stop → Type 0
StopsBefore place verdict bytes (StopUnfinished missing) = (verdict ≡ Unfinished missing) × (length bytes < place)
StopsBefore place verdict bytes (StopRefused refusal) = (verdict ≡ Refused refusal) × (refusal.place < place)

-- ---- the header

-- lawful fields, those that the bytes have, behind which the values follow
pub record Headed (verdict : Verdict) (fields : Fields) (bytes : List ℕ) (f : Fields) : Type 0 where
  pub same : f ≡ fields
  pub lawful : LawfulFields f
  pub within : header_bytes f ≤ length bytes
  pub leads : verdict ≡ verdict_behind (enter_values f (vector_bytes f)) bytes (header_bytes f)

-- the header of bytes that have this verdict and these fields
abbrev pub HeadFrom : Verdict → Fields → List ℕ → Result Fields Stop → Type 0
HeadFrom verdict fields bytes (Ok f) = Headed verdict fields bytes f
HeadFrom verdict fields bytes (Err stop) = StopsBefore (header_bytes fields) verdict bytes stop

-- ---- the bit vector

-- the ones of words of bytes
abbrev pub ones_in : List (List ℕ) → ℕ
ones_in [] = 0
ones_in (word ∷ words) = sum (bits word) + ones_in words

-- so many coefficients are sent, and their words follow
pub record SentBy (bytes : List ℕ) (f : Fields) (sent : ℕ) : Type 0 where
  pub counted : sent ≤ 2016
  pub within : words_from f ≤ length bytes
  pub marked : sent ≡ sent_in f bytes
  pub leads : verdict_behind (enter_values f (vector_bytes f)) bytes (header_bytes f) ≡ verdict_behind (enter (words_of f sent)) bytes (words_from f)

abbrev pub SentFrom : List ℕ → Fields → Result ℕ Stop → Type 0
SentFrom bytes f (Ok sent) = SentBy bytes f sent
SentFrom bytes f (Err stop) = StopsBefore (words_from f) (verdict_behind (enter_values f (vector_bytes f)) bytes (header_bytes f)) bytes stop

-- ---- all that stands before the words

-- lawful fields, and the words that follow from a place on
pub record BegunBy (told : Told) (bytes : List ℕ) (f : Fields) (words sent : ℕ) : Type 0 where
  pub same : f ≡ fields_of told bytes
  pub lawful : LawfulFields f
  pub start : words ≡ words_from f
  pub within : words ≤ length bytes
  pub counted : sent ≤ 2016
  pub marked : sent ≡ sent_in f bytes
  pub leads : verdict_of told bytes ≡ verdict_behind (enter (words_of f sent)) bytes words

abbrev pub BegunFrom : Told → List ℕ → Result Begun Stop → Type 0
BegunFrom told bytes (Ok begun) = BegunBy told bytes begun.fields begun.words begun.sent
BegunFrom told bytes (Err stop) = StopsBefore (before told bytes) (verdict_of told bytes) bytes stop
