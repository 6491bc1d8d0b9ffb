-- The text of a report line: its number, kind, word, two numbers, LF, in ASCII; and of a failure.
use Rattle.std.specs.Prelude.{ℕ, zero, suc, ◌+◌, ◌/◌, ◌%◌, cond, List, [], ◌∷◌, ◌++◌, ltb, get_or}
use Rattle.verdict.specs.Stated.{Stated, gives, misses, refuses}
use Rattle.outcome.specs.declared.Outcome.{Outcome}
use Rattle.outcome.specs.declared.Outcome.TheVariants.{Ok, Cut, Bad, Open}
use Rattle.outcome.specs.declared.FrameAnswer.{FrameAnswer}
use Rattle.outcome.specs.Letters.{letter_of}
use Rattle.outcome.specs.Stated.{stated_outcome}
use Rattle.text.specs.declared.Failure.{Failure}
use Rattle.text.specs.declared.Failure.TheVariants.{Reading, Writing}

-- OK, CUT, BAD, OPEN
abbrev pub word_of : Outcome → List ℕ
word_of (Ok count) = 79 ∷ 75 ∷ []
word_of (Cut missing) = 67 ∷ 85 ∷ 84 ∷ []
word_of (Bad refusal) = 66 ∷ 65 ∷ 68 ∷ []
word_of Open = 79 ∷ 80 ∷ 69 ∷ 78 ∷ []

-- the first number of what is stated: the first value, the missing bytes, or the refusal's number
abbrev pub first_stated : Stated → ℕ
first_stated (gives values) = get_or values 0 0
first_stated (misses missing) = missing
first_stated (refuses number place) = number

-- the second: 0, or the refusal's place
abbrev pub second_stated : Stated → ℕ
second_stated (gives values) = 0
second_stated (misses missing) = 0
second_stated (refuses number place) = place

-- a line's first number: the value's length, the missing bytes, the reason, or 0
abbrev pub first_number_of : Outcome → ℕ
first_number_of outcome = first_stated (stated_outcome outcome)

-- its second: 0, 0, the place, or 0
abbrev pub second_of : Outcome → ℕ
second_of outcome = second_stated (stated_outcome outcome)

-- a number's decimal digits, at most one more than so many
unfoldable pub decimal_in : ℕ → ℕ → List ℕ
decimal_in zero n = (48 + n % 10) ∷ []
decimal_in (suc more) n = let before = decimal_in more (n / 10) in cond (ltb n 10) ((48 + n) ∷ []) (before ++ ((48 + n % 10) ∷ []))

-- a number has fewer digits than ones, but for 0
unfoldable pub decimal : ℕ → List ℕ
decimal n = decimal_in n n

-- a line's number, kind and word
abbrev pub head_of : ℕ → FrameAnswer → List ℕ
head_of number answer = decimal number ++ (32 ∷ letter_of answer.kind ∷ 32 ∷ word_of answer.outcome)

-- its two numbers and LF
abbrev pub tail_of : Outcome → List ℕ
tail_of outcome = 32 ∷ decimal (first_number_of outcome) ++ (32 ∷ decimal (second_of outcome) ++ (10 ∷ []))

-- a report line
abbrev pub text_of : ℕ → FrameAnswer → List ℕ
text_of number answer = head_of number answer ++ tail_of answer.outcome

-- what failed, in a word: reading, writing
abbrev pub failure_word : Failure → List ℕ
failure_word Reading = 114 ∷ 101 ∷ 97 ∷ 100 ∷ 105 ∷ 110 ∷ 103 ∷ []
failure_word Writing = 119 ∷ 114 ∷ 105 ∷ 116 ∷ 105 ∷ 110 ∷ 103 ∷ []

-- in words: shelfcheck: reading failed at line
abbrev pub failure_of : Failure → List ℕ
failure_of failure =
    115 ∷ 104 ∷ 101 ∷ 108 ∷ 102 ∷ 99 ∷ 104 ∷ 101 ∷ 99 ∷ 107 ∷ 58 ∷ 32
    ∷ (failure_word failure ++ (32 ∷ 102 ∷ 97 ∷ 105 ∷ 108 ∷ 101 ∷ 100 ∷ 32 ∷ 97 ∷ 116 ∷ 32 ∷ 108 ∷ 105 ∷ 110 ∷ 101 ∷ 32 ∷ []))

-- with the number of the line, and LF
abbrev pub failure_text : Failure → ℕ → List ℕ
failure_text failure number = failure_of failure ++ (decimal number ++ (10 ∷ []))
