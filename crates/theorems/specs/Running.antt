-- A run of the program `shelfcheck`: one read or write after the other, as it was asked.
use Rattle.std.specs.Prelude.{ℕ, ◌≤◌, ◌<◌, ◌≡◌, true, List, [], ◌++◌, Ok, length, take}
use Rattle.lines.specs.Taking.{longest_line}
use Rattle.text.specs.Writing.{room}
use Rattle.shelfwork.specs.declared.Ask.TheVariants.{Read, Write}
use Rattle.shelfwork.specs.declared.Done.TheVariants.{Read as DoneRead, Wrote}
use Rattle.shelfwork.specs.declared.Work.{Work}
use Rattle.shelfwork.specs.Work.{begun, After}
use Rattle.theorems.specs.Calls.{Calls}

-- memory that is lent keeps its length
pub record Lent (line out line' out' : List ℕ) : Type 0 where
  pub lines : length line' ≡ length line
  pub outs : length out' ≡ length out

-- where the work stands before the input ends, with the chunk, the line buffer and the output; then what was read, and what was written
pub data Worked : Work → List ℕ → List ℕ → List ℕ → List ℕ → List ℕ → Type 0 where
  begins : {chunk line out : List ℕ} → longest_line ≤ length line → room ≤ length out → Worked begun chunk line out [] []
  reads : {work : Work} {chunk line out input output : List ℕ} → Worked work chunk line out input output → work.ask ≡ Ok Read → (chunk' : List ℕ) (count : ℕ) → 0 < count → count ≤ length chunk'
      → (work' : Work) (line' out' : List ℕ) → After work (Ok (DoneRead count)) chunk' line out work' line' out' → Lent line out line' out' → Worked work' chunk' line' out' (input ++ take count chunk') output
  writes : {work : Work} {chunk line out input output : List ℕ} → Worked work chunk line out input output → (count : ℕ) → work.ask ≡ Ok (Write count)
      → (work' : Work) (line' out' : List ℕ) → After work (Ok Wrote) chunk line out work' line' out' → Lent line out line' out' → Worked work' chunk line' out' input (output ++ take count out)

-- what was written is the report lines of the lines before this one, of some beginning of the input
pub record Before (number : ℕ) (input output : List ℕ) : Type 0 where
  pub taken : List ℕ
  pub rest : List ℕ
  pub begins : input ≡ taken ++ rest
  pub held : ℕ
  pub buffer : List ℕ
  pub calls : Calls number held buffer taken output

-- the last write is asked, of a text of which something holds
pub record Last (work : Work) (out : List ℕ) (Text : List ℕ → Type 0) : Type 0 where
  pub count : ℕ
  pub asked : work.ask ≡ Ok (Write count)
  pub last : work.ended ≡ true
  pub holds : Text (take count out)
