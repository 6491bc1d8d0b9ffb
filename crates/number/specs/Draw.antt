-- What drawing a number at a place of the bytes finds.
use Rattle.std.specs.Prelude.{ℕ, ◌+◌, ◌/◌, Bool, cond, List, [], ◌∷◌, Result, Ok, Err, eqb, drop}
use Rattle.verdict.specs.declared.Reason.{Reason}
use Rattle.number.specs.declared.Effect.{Effect}
use Rattle.number.specs.declared.Effect.TheVariants.{Ends, GoesOn}
use Rattle.number.specs.declared.Number.{Number}
use Rattle.number.specs.declared.Undrawn.{Undrawn}
use Rattle.number.specs.declared.Undrawn.TheVariants.{Cut, Refused}
use Rattle.number.specs.declared.Numbers.{Numbers}
use Rattle.number.specs.Octet.{effect_of}

-- a number was drawn, and this is the place behind it
abbrev pub drawn_number : ℕ → ℕ → Result Number Undrawn
drawn_number value next = Ok (record { value = value; next = next })

-- what an octet at a place leads to; behind it stand the octets that go on with the number
abbrev pub after : Result Effect Reason → ℕ → (ℕ → Result Number Undrawn) → Result Number Undrawn
after (Ok (Ends value)) place more = drawn_number value (place + 1)
after (Ok (GoesOn value)) place more = more value
after (Err reason) place more = Err (Refused (record { reason = reason; place = place }))

-- a number begun with a value goes on with these octets, the first of them at a place
unfoldable pub draw_on : List ℕ → ℕ → ℕ → Bool → ℕ → Result Number Undrawn
draw_on [] place value positive most = Err (Cut value)
draw_on (octet ∷ octets) place value positive most =
    after (effect_of octet value positive most) place (λ v. draw_on octets (place + 1) v positive most)

-- a number is drawn at a place of the bytes
abbrev pub draw_at : List ℕ → ℕ → Bool → ℕ → Result Number Undrawn
draw_at bytes place positive most = draw_on (drop place bytes) place 0 positive most

-- how great a number may be so that its product with another is at most `most`: behind 0 any that 32 bits hold
abbrev pub limit_behind : ℕ → ℕ → ℕ
limit_behind most product = cond (eqb product 0) 4294967295 (most / product)

-- the place behind what was drawn at a place: it moves on over a number alone
abbrev pub place_behind : Result Number Undrawn → ℕ → ℕ
place_behind (Ok number) place = number.next
place_behind (Err undrawn) place = place

-- the reader one number further on: the same bytes, the place behind the number, and what was drawn
abbrev pub further : Numbers → Bool → ℕ → Numbers
further numbers positive most =
    let drawn = draw_at numbers.bytes.now numbers.place positive most in
    record { bytes = numbers.bytes; place = place_behind drawn numbers.place; drawn = drawn }
