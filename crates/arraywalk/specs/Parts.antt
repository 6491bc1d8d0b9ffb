-- For private functions alone: what each part of the reader promises, that what it drew stands in the bytes, and its answer is the run's.
use Rattle.std.specs.Prelude.{ℕ, suc, ◌+◌, ◌-◌, ◌*◌, ◌≤◌, ◌≡◌, cond, List, Result, Ok, Err, length, drop, ltb}
use Rattle.verdict.specs.declared.Stop.{Stop}
use Rattle.verdict.specs.declared.Verdict.TheVariants.{Complete}
use Rattle.verdict.specs.Answers.{stopped}
use Rattle.number.specs.Front.{front}
use Rattle.arraywalk.specs.declared.Sized.{Sized}
use Rattle.arraywalk.specs.declared.Heading.{Heading}
use Rattle.arraywalk.specs.declared.Found.{Found}
use Rattle.array.specs.Meaning.{product, most}
use Rattle.array.specs.Decoded.{sizes_in, element_in, meaning_of}
use Rattle.array.specs.Table.{size, element, processing}
use Rattle.array.specs.Machine.{State, number, enter, verdict_of, verdict_at, verdict_behind}

-- where the machine stands behind so many of the sizes: before the next one, or before E
abbrev pub behind_sizes : ℕ → ℕ → ℕ → State
behind_sizes dims count p = cond (ltb count dims) (number (size (dims - suc count) p) 0) (number (element p) 0)

-- NDim was drawn, up to a place
pub record DimsTo (bytes : List ℕ) (dims place : ℕ) : Type 0 where
  pub some : 1 ≤ dims
  pub few : dims ≤ 8
  pub within : place ≤ length bytes
  pub drawn : front 0 bytes ≡ record { value = dims; behind = drop place bytes }
  pub leads : verdict_of bytes ≡ verdict_at (number (size (dims - 1) 1) 0) bytes place

-- NDim and so many sizes were drawn
pub record SizedTo (bytes : List ℕ) (count : ℕ) (sized : Sized) : Type 0 where
  pub some : 1 ≤ sized.dims
  pub few : sized.dims ≤ 8
  pub within : sized.place ≤ length bytes
  pub least : 1 ≤ sized.product
  pub limited : sized.product ≤ most
  pub counted : (front 0 bytes).value ≡ sized.dims
  pub multiplied : sized.product ≡ product (sizes_in bytes count).values
  pub behind : (sizes_in bytes count).behind ≡ drop sized.place bytes
  pub leads : verdict_of bytes ≡ verdict_at (behind_sizes sized.dims count sized.product) bytes sized.place

-- all sizes were drawn
abbrev pub SizingFrom : List ℕ → Result Sized Stop → Type 0
SizingFrom bytes (Ok sized) = SizedTo bytes sized.dims sized
SizingFrom bytes (Err stop) = verdict_of bytes ≡ stopped stop

-- all sizes and E were drawn, E up to a place
pub record ElementTo (bytes : List ℕ) (sized : Sized) (each place : ℕ) : Type 0 where
  pub sizes : SizedTo bytes sized.dims sized
  pub within : place ≤ length bytes
  pub limited : sized.product * each ≤ most
  pub valued : (element_in bytes sized.dims).value ≡ each
  pub leads : verdict_of bytes ≡ verdict_at (number (processing (sized.product * each)) 0) bytes place

-- processing 1 was drawn, up to the start of the array
pub record ProcessedTo (bytes : List ℕ) (heading : Heading) : Type 0 where
  pub sizes : SizedTo bytes heading.sized.dims heading.sized
  pub within : heading.start ≤ length bytes
  pub limited : heading.sized.product * heading.element ≤ most
  pub valued : (element_in bytes heading.sized.dims).value ≡ heading.element
  pub leads : verdict_of bytes ≡ verdict_behind (enter (heading.sized.product * heading.element)) bytes heading.start

abbrev pub HeadingFrom : List ℕ → Result Heading Stop → Type 0
HeadingFrom bytes (Ok heading) = ProcessedTo bytes heading
HeadingFrom bytes (Err stop) = verdict_of bytes ≡ stopped stop

-- a whole pack was found
pub record FoundIn (bytes : List ℕ) (found : Found) : Type 0 where
  pub dims : found.dims ≡ length (meaning_of bytes).sizes
  pub element : found.element ≡ (meaning_of bytes).element
  pub start : found.length ≡ found.start + product (meaning_of bytes).sizes * (meaning_of bytes).element
  pub said : verdict_of bytes ≡ Complete found.length

abbrev pub WalkFrom : List ℕ → Result Found Stop → Type 0
WalkFrom bytes (Ok found) = FoundIn bytes found
WalkFrom bytes (Err stop) = verdict_of bytes ≡ stopped stop
