-- The machine of matrix packs: what each byte does, and the fewest bytes that are missing in each state.
use Rattle.std.specs.Prelude.{ℕ, zero, suc, ◌+◌, ◌-◌, ◌*◌, ◌/◌, ◌%◌, ◌^◌, min, max, Bool, cond, List, [], ◌∷◌, eqb, ltb}
use Rattle.verdict.specs.Rows.{judged}
use Rattle.verdict.specs.declared.Verdict.{Verdict}
use Rattle.verdict.specs.Machine.{Move, on, done, run}
use Rattle.word.specs.Digits.{digits}
use Rattle.rule.specs.declared.rules.Rule.{Rule}
use Rattle.rule.specs.Rules.{cleared, rule_of_deviations, rule_of_coefficients}
use Rattle.matrix.specs.declared.Fields.{Fields}
use Rattle.matrix.specs.declared.Told.{Told}
use Rattle.matrix.specs.Meaning.{pairs, sum}
use Rattle.matrix.specs.Header.{vector_bytes, first, second, single, in_mode1}
use Rattle.matrix.specs.Table.{size_rows, single_rows, control1_rows, control2_rows, vector_rows, word_rows}

-- some words of one rule
pub record Run : Type 0 where
  pub rule : Rule
  pub count : ℕ

-- what comes next: a field, or a byte of a word. A vector has `more` bytes, and a word `more` bytes, after the next one
pub data State : Type 0 where
  size : Told → State
  -- what was told, the size
  control1 : Told → ℕ → State
  control2 : Fields → State
  -- the fields, the bytes after the next one, the ones so far
  vector : Fields → ℕ → ℕ → State
  -- the bytes after the next one, the next one's sign, what the rest of the word may be at most, the words behind it
  word : ℕ → ℕ → ℕ → Run → List Run → State

-- into the first word of so many bytes
abbrev pub enter_word : ℕ → Rule → ℕ → List Run → Move State → Move State
enter_word zero rule count runs next = next
enter_word (suc more) rule count runs next = on (word more (rule.sign / 256 ^ more) rule.greatest (record { rule = rule; count = count }) runs)

-- into a run of words, or past it where it has none
abbrev pub enter_run : Rule → ℕ → List Run → Move State → Move State
enter_run rule zero runs next = next
enter_run rule (suc count) runs next = enter_word rule.length rule count runs next

-- into the first word that has bytes; a pack ends where there is none
unfoldable pub enter : List Run → Move State
enter [] = done
enter (run ∷ runs) = enter_run run.rule run.count runs (enter runs)

-- the words of a matrix of which so many coefficients are sent
abbrev pub words_of : Fields → ℕ → List Run
words_of f sent = record { rule = rule_of_deviations f.sf f.slen; count = f.n } ∷ record { rule = rule_of_coefficients f.cf f.clen; count = sent } ∷ []

-- how many coefficients are sent unless sparse: all, or none if they have no bytes
abbrev pub all_sent_count : Fields → ℕ
all_sent_count f = pairs f.n * min 1 f.clen

-- behind the control bytes: the bit vector if sparse, else the words
abbrev pub enter_values : Fields → ℕ → Move State
enter_values f zero = enter (words_of f (all_sent_count f))
enter_values f (suc more) = on (vector f more 0)

-- behind a byte of the vector with so many ones up to it
abbrev pub in_vector : Fields → ℕ → ℕ → ℕ → Move State
in_vector f zero sent b = judged (vector_rows f sent b) (enter (words_of f sent))
in_vector f (suc more) sent b = on (vector f more sent)

-- behind a byte of a word, where the rest of it may be at most `top`
abbrev pub in_word : ℕ → ℕ → Run → List Run → Move State
in_word zero top run runs = enter (run ∷ runs)
in_word (suc more) top run runs = on (word more 0 top run runs)

-- what the rest of a word may be at most: anything behind a byte below the limit's, the limit's rest behind an equal one
abbrev pub rest_of : ℕ → ℕ → ℕ → ℕ
rest_of more top b = cond (ltb b (top / 256 ^ more)) (256 ^ more - 1) (top % 256 ^ more)

-- at Mode 1's control byte, which says these fields
abbrev pub in_single : Fields → Move State
in_single f = judged (single_rows f) (enter_values f (vector_bytes f))

-- at Mode 2's control byte 1
abbrev pub in_first : Fields → ℕ → Move State
in_first f b = judged (control1_rows f b) (on (control2 f))

abbrev pub step : State → ℕ → Move State
step (size told) b = judged (size_rows b) (on (control1 told b))
step (control1 told n) b = cond (in_mode1 told b) (in_single (single told n b)) (in_first (first n b) b)
step (control2 f) b = judged (control2_rows (second f b) b) (enter_values (second f b) (vector_bytes f))
step (vector f more sent) b = in_vector f more (sent + sum (digits 2 8 b)) b
step (word more sign top run runs) b =
    judged (word_rows (ltb (top / 256 ^ more) (cleared sign b))) (in_word more (rest_of more top (cleared sign b)) run runs)

-- the bytes of some words
unfoldable pub run_bytes : List Run → ℕ
run_bytes [] = 0
run_bytes (run ∷ runs) = run.count * run.rule.length + run_bytes runs

-- the fewest bytes of values behind control byte 2: N deviations of one byte without coefficients; all coefficients without
-- deviations; the bit vector, and one coefficient or N deviations of one byte
abbrev pub least_values : Fields → ℕ
least_values f = cond f.cs (vector_bytes f + min f.clen f.n) (cond (eqb f.clen 0) f.n (pairs f.n * f.clen))

-- the fewest bytes of values of n variables, where a deviation has so many at least: n deviations without coefficients; of two variables
-- or more also coefficients of one byte without deviations, all or sparse
abbrev pub least_for : ℕ → ℕ → ℕ
least_for each n = cond (eqb n 1) each (min (n * each) (min (pairs n) ((pairs n + 7) / 8 + 1)))

-- the fewest bytes of a deviation: 1 mapped, 2 IEEE
abbrev pub shortest : Bool → ℕ
shortest mapped = cond mapped 1 2

-- the fewest bytes behind the size: of Mode 2, and of Mode 1 where it is let in
abbrev pub least_behind : Told → ℕ → ℕ
least_behind told n = cond told.mode1 (min (1 + least_for (shortest told.mapped) n) (2 + least_for 1 n)) (2 + least_for 1 n)

-- how many coefficients there are at least where so many ones were seen: one, where there are no deviations
abbrev pub fewest : Fields → ℕ → ℕ
fewest f sent = max sent (cond (eqb f.slen 0) 1 0)

-- the fewest bytes that are missing
abbrev pub least : State → ℕ
least (size told) = cond told.mode1 3 4
least (control1 told n) = least_behind told n
least (control2 f) = 1 + least_values f
least (vector f more sent) = suc more + (f.n * f.slen + fewest f sent * f.clen)
least (word more sign top run runs) = suc more + (run.count * run.rule.length + run_bytes runs)

-- the verdict on a string of bytes, under what was told
abbrev pub verdict_of : Told → List ℕ → Verdict
verdict_of told bytes = run step least (size told) bytes
