-- The machine of array packs: what each byte does, the fewest bytes that are missing in each state, and the verdict of its run.
use Rattle.std.specs.Prelude.{ℕ, zero, suc, ◌+◌, ◌-◌, ◌*◌, ◌≤◌, ◌<◌, cond, List, Result, Ok, Err, eqb}
use Rattle.verdict.specs.declared.Reason.{Reason}
use Rattle.verdict.specs.declared.Reason.TheVariants.{Processing}
use Rattle.verdict.specs.declared.Verdict.{Verdict}
use Rattle.verdict.specs.Numbers.{number_of}
use Rattle.verdict.specs.Machine.{Move, on, done, bad, run}
use Rattle.verdict.specs.Reaching.{reach, led}
use Rattle.number.specs.declared.Effect.{Effect}
use Rattle.number.specs.declared.Effect.TheVariants.{Ends, GoesOn}
use Rattle.number.specs.Octet.{effect_of}
use Rattle.array.specs.Meaning.{most}
use Rattle.array.specs.Table.{Field, dims, size, element, processing, limit, positive}

-- a number's reason in its field: above the limit, where a number has 2, processing has 12
abbrev pub reason_in : Field → Reason → Reason
reason_in dims reason = reason
reason_in (size more product) reason = reason
reason_in (element product) reason = reason
reason_in (processing total) reason = cond (eqb (number_of reason) 2) Processing reason

-- where bytes stand: within a number begun with a value, 0 before its first octet, or in the array with so many bytes behind the next one
pub data State : Type 0 where
  number : Field → ℕ → State
  body : ℕ → State

-- into the array, or done where it has no bytes
abbrev pub enter : ℕ → Move State
enter zero = done
enter (suc more) = on (body more)

-- behind a size, with this product: the next size, or E
abbrev pub behind_size : ℕ → ℕ → Move State
behind_size zero product = on (number (element product) 0)
behind_size (suc more) product = on (number (size more product) 0)

-- behind a number of this value
abbrev pub behind : Field → ℕ → Move State
behind dims value = on (number (size (value - 1) 1) 0)
behind (size more product) value = behind_size more (product * value)
behind (element product) value = on (number (processing (product * value)) 0)
behind (processing total) value = enter total

-- an octet ends its field's number, goes on with it, or is refused
abbrev pub behind_effect : Field → Result Effect Reason → Move State
behind_effect field (Ok (Ends value)) = behind field value
behind_effect field (Ok (GoesOn value)) = on (number field value)
behind_effect field (Err reason) = bad (reason_in field reason)

-- what a byte does where bytes stand: an octet by the rules of numbers with its field's limits, a byte of the array by none
abbrev pub move : State → ℕ → Move State
move (number field value) octet = behind_effect field (effect_of octet value (positive field) (limit field))
move (body more) b = enter more

-- the fewest bytes that are missing: an octet to end the number begun, one for each later number, and the array
abbrev pub least : State → ℕ
least (number dims value) = 4
least (number (size more product) value) = more + 3
least (number (element product) value) = 2 + product * (value * 128)
least (number (processing total) value) = 1 + total
least (body more) = suc more

-- the numbers that a pack can be in
abbrev pub GoodField : Field → Type 0
GoodField dims = Unit {0}
GoodField (size more product) = (more ≤ 7) × ((1 ≤ product) × (product ≤ most))
GoodField (element product) = (1 ≤ product) × (product ≤ most)
GoodField (processing total) = total ≤ most

-- the states that a machine can be in: a number goes on only while its smallest ending keeps the limit
abbrev pub Good : State → Type 0
Good (number field value) = GoodField field × (value * 128 ≤ limit field)
Good (body more) = more < most

-- the verdict on a string of bytes
abbrev pub verdict_of : List ℕ → Verdict
verdict_of bytes = run move least (number dims 0) bytes

-- the verdict on all the bytes from a state that the machine has reached at a place, and behind a move
abbrev pub verdict_at : State → List ℕ → ℕ → Verdict
verdict_at s bytes place = reach move least s bytes place

abbrev pub verdict_behind : Move State → List ℕ → ℕ → Verdict
verdict_behind next bytes place = led move least next bytes place
