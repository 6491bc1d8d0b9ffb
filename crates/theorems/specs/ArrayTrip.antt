-- What is said of an array on its way through `read`, `write` and `address`.
use Rattle.std.specs.Prelude.{ℕ, ◌+◌, ◌-◌, ◌*◌, ◌≤◌, ◌≡◌, true, false, List, ◌++◌, Result, Ok, Err, length, take, drop}
use Rattle.std.proofs.Math.Seq.{slice}
use Rattle.verdict.specs.declared.Reason.TheVariants.{Index}
use Rattle.verdict.specs.declared.Verdict.{Verdict}
use Rattle.verdict.specs.declared.Verdict.TheVariants.{Complete}
use Rattle.verdict.specs.declared.Stop.{Stop}
use Rattle.verdict.specs.declared.Stop.TheVariants.{Refused}
use Rattle.verdict.specs.Answers.{stopped}
use Rattle.verdict.specs.Says.{CompleteAt, Says}
use Rattle.array.specs.Meaning.{Array as Meant, Lawful}
use Rattle.array.specs.Spelling.{bytes_of, ArrayPack}
use Rattle.array.specs.Decoded.{meaning_of}
use Rattle.array.specs.Offsets.{inside, offset}
use Rattle.array.specs.Table.{Why}
use Rattle.arrayreader.specs.declared.ArrayRead.{ArrayRead}

-- the sizes that an answer lists: the first NDim of its eight
abbrev pub sizes_listed : ℕ → List ℕ → List ℕ
sizes_listed dims sizes = take dims sizes

-- these sizes, E, and the bytes from the start to the end
abbrev pub array_read : List ℕ → ArrayRead → Meant
array_read bytes read = record { sizes = sizes_listed read.dims read.sizes; element = read.element; body = slice read.start read.length bytes }

-- an array that was read: it is lawful, it is what the bytes mean, and they begin with its bytes, which end at the end
pub record ReadAs (bytes : List ℕ) (array : Meant) (start end : ℕ) : Type 0 where
  pub complete : CompleteAt ArrayPack bytes end
  pub begins : start ≤ end
  pub lawful : Lawful array
  pub means : meaning_of bytes ≡ array
  pub spelled : bytes_of array ≡ take end bytes

-- what each answer of `read` says of the bytes
abbrev pub ReadSays : List ℕ → Result ArrayRead Stop → Type 0
ReadSays bytes (Ok read) = ReadAs bytes (array_read bytes read) read.start read.length
ReadSays bytes (Err stop) = Says ArrayPack Why bytes (stopped stop)

-- the pack's own bytes stand at the front of the buffer, and what was behind them stays
pub record WrittenAgain (bytes : List ℕ) (end : ℕ) (out : List ℕ) (answer : Verdict) (out' : List ℕ) : Type 0 where
  pub answered : answer ≡ Complete end
  pub left : out' ≡ take end bytes ++ drop end out

-- the answer of `read` on bytes that begin with the so many bytes of an array: its sizes and E, and the array, which is the last of them, from the start to the end
pub record ReadAgain (array : Meant) (count : ℕ) (bytes : List ℕ) (answer : Result ArrayRead Stop) : Type 0 where
  pub listed : List ℕ
  pub eight : length listed ≡ 8
  pub answered : answer ≡ Ok (record { dims = length array.sizes; sizes = listed; element = array.element; start = count - length array.body; length = count })
  pub same_sizes : sizes_listed (length array.sizes) listed ≡ array.sizes
  pub same_array : slice (count - length array.body) count bytes ≡ array.body

-- an element of an array that begins at a start of the bytes: it lies within the array, and its bytes are the array's
pub record ElementAt (array : Meant) (start at : ℕ) (bytes : List ℕ) : Type 0 where
  pub within : at + array.element ≤ length array.body
  pub same_bytes : take array.element (drop (start + at) bytes) ≡ take array.element (drop at array.body)

-- the answer of `address` on them: 15 outside, and inside the offset, at which the element stands
pub record AddressedAs (array : Meant) (start : ℕ) (bytes indices : List ℕ) (answer : Result ℕ Stop) : Type 0 where
  pub outside : inside array.sizes indices ≡ false → answer ≡ Err (Refused (record { reason = Index; place = 0 }))
  pub offered : inside array.sizes indices ≡ true → answer ≡ Ok (offset array.sizes indices * array.element)
  pub stands : inside array.sizes indices ≡ true → ElementAt array start (offset array.sizes indices * array.element) bytes
