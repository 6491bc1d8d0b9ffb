-- For private functions alone: what each part of the walk promises, that its answer is the run's from where it stands.
use Rattle.std.specs.Prelude.{ℕ, ◌+◌, ◌-◌, ◌*◌, ◌/◌, ◌^◌, ◌≤◌, ◌<◌, ◌≡◌, cond, List, [], ◌∷◌, length, get_or, eqb, Result, Ok, Err}
use Rattle.std.specs.Int.Bits.{bit_and}
use Rattle.verdict.specs.declared.Stop.{Stop}
use Rattle.verdict.specs.Answers.{stopped}
use Rattle.verdict.specs.declared.Reason.TheVariants.{ValueRange}
use Rattle.verdict.specs.declared.Verdict.{Verdict}
use Rattle.verdict.specs.declared.Verdict.TheVariants.{Complete, Unfinished, Refused}
use Rattle.rule.specs.declared.rules.Rule.{Rule}
use Rattle.rule.specs.Rules.{cleared, rule_of_coefficients}
use Rattle.matrix.specs.declared.Fields.{Fields}
use Rattle.matrixwalk.specs.declared.Found.{Found}
use Rattle.matrix.specs.Meaning.{LawfulFields}
use Rattle.matrix.specs.Machine.{State, word, Run, enter, words_of, run_bytes}
use Rattle.matrix.specs.Reached.{verdict_at, verdict_behind}

-- ---- words

-- what of a word's first byte counts
abbrev pub mask_of : Rule → ℕ
mask_of rule = cond (eqb rule.sign 0) 255 127

abbrev pub over_at : ℕ → Verdict
over_at place = Refused (record { reason = ValueRange; place = place })

-- at the first byte of a word of a rule, with these words behind it
abbrev pub word_of : Rule → Run → List Run → State
word_of rule run runs = word (rule.length - 1) (rule.sign / 256 ^ (rule.length - 1)) rule.greatest run runs

-- a word of a rule begins at a place, and is looked at up to another
pub record LookedAt (bytes : List ℕ) (place until : ℕ) (rule : Rule) : Type 0 where
  pub some : 1 ≤ rule.length
  pub before : place < until
  pub within : until ≤ length bytes

-- the first byte of a word is its limit's
abbrev pub TightAt : List ℕ → ℕ → Rule → Type 0
TightAt bytes place rule = cleared (rule.sign / 256 ^ (rule.length - 1)) (get_or bytes place 0) ≡ rule.greatest / 256 ^ (rule.length - 1)

-- up to `until` a word breaks its rule at a byte, or nowhere
pub record Judges (bytes : List ℕ) (place until : ℕ) (rule : Rule) (broken : ℕ) : Type 0 where
  pub within : broken ≤ until
  pub over : broken < until → (run : Run) (runs : List Run) → verdict_at (word_of rule run runs) bytes place ≡ over_at broken
  pub whole : broken ≡ until → place + rule.length ≤ until → (run : Run) (runs : List Run) → verdict_at (word_of rule run runs) bytes place ≡ verdict_behind (enter (run ∷ runs)) bytes (place + rule.length)
  pub cut : broken ≡ until → until < place + rule.length → until ≡ length bytes → (run : Run) (runs : List Run)
      → verdict_at (word_of rule run runs) bytes place ≡ Unfinished (place + rule.length - until + run_bytes (run ∷ runs))

abbrev pub run_of : Rule → ℕ → Run
run_of rule count = record { rule = rule; count = count }

-- up to `until` some words of a rule break it at a byte, or nowhere
pub record Checks (bytes : List ℕ) (place until : ℕ) (rule : Rule) (broken : ℕ) : Type 0 where
  pub within : broken ≤ until
  pub over : broken < until → (count : ℕ) (runs : List Run) → until ≤ place + count * rule.length → verdict_behind (enter (run_of rule count ∷ runs)) bytes place ≡ over_at broken
  pub whole : broken ≡ until → (count : ℕ) (runs : List Run) → until ≡ place + count * rule.length → verdict_behind (enter (run_of rule count ∷ runs)) bytes place ≡ verdict_behind (enter runs) bytes until
  pub cut : broken ≡ until → (count : ℕ) (runs : List Run) → until < place + count * rule.length → until ≡ length bytes
      → verdict_behind (enter (run_of rule count ∷ runs)) bytes place ≡ Unfinished (place + count * rule.length - until + run_bytes runs)

-- the first byte of each word of n bytes up to `until` is below a limit
abbrev pub FirstsBelow : List ℕ → ℕ → ℕ → ℕ → ℕ → Type 0
FirstsBelow bytes place until n limit = (k : ℕ) → place + k * n < until → get_or bytes (place + k * n) 0 < limit

-- each entry is no less than it was, nor than the byte that stands as far behind a place
pub record Raised (bytes : List ℕ) (at : ℕ) (most₀ most : List ℕ) : Type 0 where
  pub same_length : length most ≡ length most₀
  pub kept : (i : ℕ) → get_or most₀ i 0 ≤ get_or most i 0
  pub above : (i : ℕ) → i < length most₀ → get_or bytes (at + i) 0 ≤ get_or most i 0

-- no byte of so many blocks of so many bytes is above the entry for its place in the block
abbrev pub BlocksUnder : List ℕ → ℕ → ℕ → List ℕ → Type 0
BlocksUnder bytes blocks size most = (b i : ℕ) → b < blocks → i < size → get_or bytes (b * size + i) 0 ≤ get_or most i 0

-- each word of n bytes up to `until` has two bytes before that, and what counts of them is no more than this
abbrev pub TwosUnder : List ℕ → ℕ → ℕ → ℕ → ℕ → ℕ → Type 0
TwosUnder bytes place until n mask most =
    (k : ℕ) → place + k * n < until → (place + k * n + 1 < until) × (bit_and (get_or bytes (place + k * n) 0 * 256 + get_or bytes (place + k * n + 1) 0) mask ≤ most)

-- past some words, with so many bytes of words behind them
pub record PassedTo (bytes : List ℕ) (place count : ℕ) (rule : Rule) (after next : ℕ) : Type 0 where
  pub same : next ≡ place + count * rule.length
  pub within : next ≤ length bytes
  pub leads : (runs : List Run) → run_bytes runs ≡ after → verdict_behind (enter (run_of rule count ∷ runs)) bytes place ≡ verdict_behind (enter runs) bytes next

abbrev pub PassedFrom : List ℕ → ℕ → ℕ → Rule → ℕ → Result ℕ Stop → Type 0
PassedFrom bytes place count rule after (Ok next) = PassedTo bytes place count rule after next
PassedFrom bytes place count rule after (Err stop) = (runs : List Run) → run_bytes runs ≡ after → verdict_behind (enter (run_of rule count ∷ runs)) bytes place ≡ stopped stop

-- ---- the whole pack

-- the words of lawful fields begin at a place, and so many coefficients are sent
pub record WordsAt (bytes : List ℕ) (f : Fields) (words sent : ℕ) : Type 0 where
  pub lawful : LawfulFields f
  pub within : words ≤ length bytes
  pub counted : sent ≤ 2016

-- the verdict from the first word on
abbrev pub verdict_from : List ℕ → Fields → ℕ → ℕ → Verdict
verdict_from bytes f words sent = verdict_behind (enter (words_of f sent)) bytes words

-- the deviations end at a place, and the coefficients that are sent follow
pub record PastDeviations (bytes : List ℕ) (f : Fields) (words sent place : ℕ) : Type 0 where
  pub begun : WordsAt bytes f words sent
  pub within : place ≤ length bytes
  pub leads : verdict_from bytes f words sent ≡ verdict_behind (enter (run_of (rule_of_coefficients f.cf f.clen) sent ∷ [])) bytes place

-- a whole pack was found
pub record FoundIn (bytes : List ℕ) (f : Fields) (words sent : ℕ) (found : Found) : Type 0 where
  pub same : found ≡ record { fields = f; words = words; sent = sent; length = found.length }
  pub said : verdict_from bytes f words sent ≡ Complete found.length

abbrev pub WalkFrom : List ℕ → Fields → ℕ → ℕ → Result Found Stop → Type 0
WalkFrom bytes f words sent (Ok found) = FoundIn bytes f words sent found
WalkFrom bytes f words sent (Err stop) = verdict_from bytes f words sent ≡ stopped stop
