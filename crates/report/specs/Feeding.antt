-- What feeding a chunk of the input answers and leaves: character by character, the open line is held in a line buffer, and each closed line's text is written.
use Rattle.std.specs.Prelude.{ℕ, suc, ◌-◌, ◌≡◌, Bool, ◌||◌, cond, List, [], ◌∷◌, ◌++◌, length, take, eqb, ltb, Result, Ok, Err}
use Rattle.verdict.specs.declared.Reason.TheVariants.{FrameLong, SmallBuffer}
use Rattle.verdict.specs.declared.Refusal.{Refusal}
use Rattle.verdict.specs.declared.Verdict.{Verdict}
use Rattle.verdict.specs.Writing.{put}
use Rattle.outcome.specs.declared.Kind.TheVariants.{Unknown}
use Rattle.outcome.specs.declared.Outcome.TheVariants.{Open}
use Rattle.outcome.specs.declared.FrameAnswer.{FrameAnswer}
use Rattle.outcome.specs.Refusing.{refusing}
use Rattle.lines.specs.Taking.{longest_line, kept, held_on}
use Rattle.text.specs.Text.{text_of}
use Rattle.text.specs.Writing.{room, WrittenText}
use Rattle.report.specs.declared.feed.State.{State}
use Rattle.report.specs.declared.feed.Fed.{Fed as FedTo}
use Rattle.report.specs.Line.{line_answer, next_number}

-- the answer to the line that is held
abbrev pub held_answer : List ℕ → ℕ → FrameAnswer
held_answer buffer held = cond (ltb longest_line held) (refusing Unknown FrameLong) (line_answer (take held buffer))

-- what came of a chunk: the state, the line buffer, the text, and how many characters were taken
pub record Came : Type 0 where
  pub number : ℕ
  pub held : ℕ
  pub buffer : List ℕ
  pub text : List ℕ
  pub taken : ℕ

-- nothing came
abbrev pub nothing : ℕ → ℕ → List ℕ → Came
nothing number held buffer = record { number = number; held = held; buffer = buffer; text = []; taken = 0 }

-- behind one character more, and this text
abbrev pub behind : List ℕ → Came → Came
behind text came = record { number = came.number; held = came.held; buffer = came.buffer; text = text ++ came.text; taken = suc came.taken }

-- a chunk, with so much room for text: a line is closed only where any report line has room
unfoldable pub came_of : ℕ → ℕ → List ℕ → ℕ → List ℕ → Came
came_of number held buffer left [] = nothing number held buffer
came_of number held buffer left (c ∷ chunk) =
    let text = text_of number (held_answer buffer held) in
    cond (eqb c 10)
    (cond (ltb left room) (nothing number held buffer) (behind text (came_of (next_number number) 0 buffer (left - length text) chunk)))
    (behind [] (came_of number (held_on held) (kept buffer held c) left chunk))

-- what is answered: the state, how much was taken, how much was written
abbrev pub answer_for : Came → Result FedTo Refusal
answer_for came = Ok (record { state = record { number = came.number; held = came.held }; taken = came.taken; written = length came.text })

-- a chunk was fed: the answer, and the line buffer and the output at exit
pub record Fed (state : State) (chunk buffer out : List ℕ) (answer : Result FedTo Refusal) (buffer' out' : List ℕ) : Type 0 where
  pub said : answer ≡ answer_for (came_of state.number state.held buffer (length out) chunk)
  pub keeps : buffer' ≡ (came_of state.number state.held buffer (length out) chunk).buffer
  pub wrote : out' ≡ put out 0 (came_of state.number state.held buffer (length out) chunk).text

-- refused 13, and all is as it was
pub record Kept (buffer out : List ℕ) (answer : Result FedTo Refusal) (buffer' out' : List ℕ) : Type 0 where
  pub said : answer ≡ Err (record { reason = SmallBuffer; place = 0 })
  pub keeps : buffer' ≡ buffer
  pub wrote : out' ≡ out

-- refused 13 where the line buffer is shorter than the longest line, or no report line has room
abbrev pub too_small : List ℕ → List ℕ → Bool
too_small buffer out = ltb (length buffer) longest_line || ltb (length out) room

-- by whether it is refused
abbrev pub FedBy : State → List ℕ → List ℕ → List ℕ → Result FedTo Refusal → List ℕ → List ℕ → Type 0
FedBy state chunk buffer out answer buffer' out' = cond (too_small buffer out) (Kept buffer out answer buffer' out') (Fed state chunk buffer out answer buffer' out')

-- the text of an open last line, if one is held
abbrev pub open_held : ℕ → ℕ → List ℕ
open_held number held = cond (eqb held 0) [] (text_of number (record { kind = Unknown; outcome = Open }))

-- behind the last chunk it is written at the front
abbrev pub Finished : State → List ℕ → Verdict → List ℕ → Type 0
Finished state out = WrittenText (open_held state.number state.held) out 0
