-- What one octet does to a number begun with a value: seven bits an octet, most significant first, top bit set on all but the last.
use Rattle.std.specs.Prelude.{ℕ, ◌+◌, ◌-◌, ◌*◌, Bool, ◌&&◌, cond, Result, Ok, Err, eqb, ltb}
use Rattle.verdict.specs.declared.Reason.{Reason}
use Rattle.verdict.specs.declared.Reason.TheVariants.{Zero, TooLarge, PaddedNumber}
use Rattle.number.specs.declared.Effect.{Effect}
use Rattle.number.specs.declared.Effect.TheVariants.{Ends, GoesOn}

-- the last octet gave this value: refused 1 for 0 where it must be 1 or more, 2 above the limit
abbrev pub ended : Bool → ℕ → ℕ → Result Effect Reason
ended positive most value = cond (positive && eqb value 0) (Err Zero) (cond (ltb most value) (Err TooLarge) (Ok (Ends value)))

-- more octets follow this value: refused 3 for 0 (a first octet 0x80), 2 where even the smallest ending, one octet 0x00, is above the limit
abbrev pub gone_on : ℕ → ℕ → Result Effect Reason
gone_on most value = cond (eqb value 0) (Err PaddedNumber) (cond (ltb most (value * 128)) (Err TooLarge) (Ok (GoesOn value)))

-- an octet's effect on a number begun with a value, 0 where no octet was taken
abbrev pub effect_of : ℕ → ℕ → Bool → ℕ → Result Effect Reason
effect_of octet value positive most =
    cond (ltb octet 128) (ended positive most (value * 128 + octet)) (gone_on most (value * 128 + (octet - 128)))
