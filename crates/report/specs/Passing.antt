-- For private functions alone: how far a chunk was fed, line by line, and what closing a line does.
use Rattle.std.specs.Prelude.{ℕ, ◌+◌, ◌-◌, ◌≤◌, ◌≡◌, List, ◌++◌, length, drop, Result, Ok, Err}
use Rattle.verdict.specs.declared.Refusal.{Refusal}
use Rattle.verdict.specs.Writing.{put}
use Rattle.lines.specs.Taking.{piece_of, kept_all, held_all}
use Rattle.text.specs.Text.{text_of}
use Rattle.text.specs.Writing.{room}
use Rattle.report.specs.declared.feed.State.{State}
use Rattle.report.specs.declared.feed.Fed.{Fed}
use Rattle.report.specs.Line.{next_number}
use Rattle.report.specs.Feeding.{held_answer, Came, came_of}

-- what came, behind so many characters and this text
abbrev pub further : ℕ → List ℕ → Came → Came
further taken text came = record { number = came.number; held = came.held; buffer = came.buffer; text = text ++ came.text; taken = taken + came.taken }

-- how far a chunk was fed: what came so far, and what is still to come
pub record Sofar (state : State) (chunk buffer₀ out₀ : List ℕ) (at : Fed) (buffer out : List ℕ) : Type 0 where
  pub text : List ℕ
  pub counted : length text ≡ at.written
  pub room_left : at.written ≤ length out₀
  pub far : at.taken ≤ length chunk
  pub wrote : out ≡ put out₀ 0 text
  pub came : came_of state.number state.held buffer₀ (length out₀) chunk ≡ further at.taken text (came_of at.state.number at.state.held buffer (length out₀ - at.written) (drop at.taken chunk))

-- the characters before the next LF were kept
pub record KeptFrom (at : Fed) (chunk buffer : List ℕ) (next : Fed) (buffer' : List ℕ) : Type 0 where
  pub stands : next ≡ record { state = record { number = at.state.number; held = held_all at.state.held (length (piece_of (drop at.taken chunk))) }; taken = at.taken + length (piece_of (drop at.taken chunk)); written = at.written }
  pub keeps : buffer' ≡ kept_all buffer at.state.held (piece_of (drop at.taken chunk))

-- the line that is held was closed: its text stands behind what was written
pub record Closed (at : Fed) (buffer out : List ℕ) (next : Fed) (out' : List ℕ) : Type 0 where
  pub short : length (text_of at.state.number (held_answer buffer at.state.held)) ≤ room
  pub stands : next ≡ record { state = record { number = next_number at.state.number; held = 0 }; taken = at.taken + 1; written = at.written + length (text_of at.state.number (held_answer buffer at.state.held)) }
  pub wrote : out' ≡ put out at.written (text_of at.state.number (held_answer buffer at.state.held))

-- how much of a chunk was taken
abbrev pub taken_in : Result Fed Refusal → ℕ
taken_in (Ok fed) = fed.taken
taken_in (Err refusal) = 0
