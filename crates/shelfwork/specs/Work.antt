-- The work of the program `shelfcheck`: what is asked of it next, and what comes of what was done of it.
use Rattle.std.specs.Prelude.{ℕ, ◌+◌, ◌-◌, min, ◌≡◌, Bool, true, false, cond, List, eqb, leb, length, take, drop, Result, Ok, Err}
use Rattle.verdict.specs.declared.Refusal.{Refusal}
use Rattle.verdict.specs.Answers.{written}
use Rattle.text.specs.declared.Failure.{Failure}
use Rattle.text.specs.declared.Failure.TheVariants.{Reading, Writing}
use Rattle.text.specs.Text.{failure_text}
use Rattle.text.specs.Writing.{WrittenText}
use Rattle.report.specs.declared.feed.Fed.{Fed}
use Rattle.report.specs.Feeding.{FedBy, Finished}
use Rattle.shelfwork.specs.declared.Ask.{Ask}
use Rattle.shelfwork.specs.declared.Ask.TheVariants.{Read, Write, Say, Stop}
use Rattle.shelfwork.specs.declared.Done.{Done}
use Rattle.shelfwork.specs.declared.Done.TheVariants.{Read as DoneRead, Wrote, Said}
use Rattle.shelfwork.specs.declared.Work.{Work}

-- before the first read
abbrev pub begun : Work
begun = record { ask = Ok Read; state = record { number = 1; held = 0 }; number = 1; length = 0; fed = 0; ended = false }

-- the same work, with this asked
abbrev pub asking : Work → Result Ask Refusal → Work
asking work ask = record { ask = ask; state = work.state; number = work.number; length = work.length; fed = work.fed; ended = work.ended }

-- where the chunk ends
abbrev pub chunk_end : Work → List ℕ → ℕ
chunk_end work chunk = min work.length (length chunk)

-- the part of it from what was fed on
abbrev pub left_of : Work → List ℕ → List ℕ
left_of work chunk = take (chunk_end work chunk - work.fed) (drop work.fed chunk)

-- the same memory
pub record Same (line out line' out' : List ℕ) : Type 0 where
  pub lines : line' ≡ line
  pub outs : out' ≡ out

-- the work behind a call of `feed`: what it wrote is to be written, and its first line is the one that was open
abbrev pub behind_feed : Work → Result Fed Refusal → Work
behind_feed work (Ok part) =
    record { ask = Ok (Write part.written); state = part.state; number = work.state.number; length = work.length; fed = work.fed + part.taken; ended = work.ended }
behind_feed work (Err refusal) = asking work (Err refusal)

-- what is left of the chunk is fed
pub record FedLeft (work : Work) (chunk line out : List ℕ) (work' : Work) (line' out' : List ℕ) : Type 0 where
  pub answer : Result Fed Refusal
  pub feeds : FedBy work.state (left_of work chunk) line out answer line' out'
  pub stands : work' ≡ behind_feed work answer

-- nothing is left of it, and the next is asked for
pub record Unfed (work : Work) (line out : List ℕ) (work' : Work) (line' out' : List ℕ) : Type 0 where
  pub same : Same line out line' out'
  pub stands : work' ≡ asking work (Ok Read)

-- by whether anything is left
abbrev pub FedOn : Work → List ℕ → List ℕ → List ℕ → Work → List ℕ → List ℕ → Type 0
FedOn work chunk line out work' line' out' =
    cond (leb (chunk_end work chunk) work.fed) (Unfed work line out work' line' out') (FedLeft work chunk line out work' line' out')

-- what is asked where a text was written to the output: to write it, or to say it as the last
abbrev pub written_ask : Result ℕ Refusal → Bool → Result Ask Refusal
written_ask (Ok count) last = cond last (Ok (Say count)) (Ok (Write count))
written_ask (Err refusal) last = Err refusal

-- the input ended: the report line of an open last line stands in the output, if there is one, and is to be written
pub record Ended (work : Work) (out : List ℕ) (work' : Work) (out' : List ℕ) : Type 0 where
  pub answer : Result ℕ Refusal
  pub finished : Finished work.state out (written answer) out'
  pub stands : work' ≡ record { ask = written_ask answer false; state = work.state; number = work.state.number; length = 0; fed = 0; ended = true }

-- the work with so many bytes in the chunk
abbrev pub chunk_read : Work → ℕ → Work
chunk_read work count = record { ask = Ok Read; state = work.state; number = work.number; length = count; fed = 0; ended = work.ended }

-- behind a read: at the end of the input the work ends, else the chunk is fed
abbrev pub AfterRead : Work → ℕ → List ℕ → List ℕ → List ℕ → Work → List ℕ → List ℕ → Type 0
AfterRead work count chunk line out work' line' out' =
    cond (eqb count 0) (Ended work out work' out' × (line' ≡ line)) (FedOn (chunk_read work count) chunk line out work' line' out')

-- nothing more is asked
pub record Stopped (work : Work) (line out : List ℕ) (work' : Work) (line' out' : List ℕ) : Type 0 where
  pub same : Same line out line' out'
  pub stands : work' ≡ asking work (Ok Stop)

-- behind a write: at the end of the input it was the last, else the rest of the chunk is fed
abbrev pub AfterWrite : Work → List ℕ → List ℕ → List ℕ → Work → List ℕ → List ℕ → Type 0
AfterWrite work chunk line out work' line' out' = cond work.ended (Stopped work line out work' line' out') (FedOn work chunk line out work' line' out')

-- the line at which something failed: reading in the open one, writing at the first in what was to be written
abbrev pub number_at : Work → Failure → ℕ
number_at work Reading = work.state.number
number_at work Writing = work.number

-- something failed: its text stands in the output, and is to be said as the last
pub record FailedAt (work : Work) (failure : Failure) (out : List ℕ) (work' : Work) (out' : List ℕ) : Type 0 where
  pub answer : Result ℕ Refusal
  pub written : WrittenText (failure_text failure (number_at work failure)) out 0 (written answer) out'
  pub stands : work' ≡ asking work (written_ask answer true)

-- what comes of what was done, with the line buffer and the output
abbrev pub After : Work → Result Done Failure → List ℕ → List ℕ → List ℕ → Work → List ℕ → List ℕ → Type 0
After work (Ok (DoneRead count)) chunk line out work' line' out' = AfterRead work count chunk line out work' line' out'
After work (Ok Wrote) chunk line out work' line' out' = AfterWrite work chunk line out work' line' out'
After work (Ok Said) chunk line out work' line' out' = Stopped work line out work' line' out'
After work (Err failure) chunk line out work' line' out' = FailedAt work failure out work' out' × (line' ≡ line)
