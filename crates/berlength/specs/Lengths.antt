-- A BER length in its shortest form: what is read at the front of bytes, and the form of a value.
use Rattle.std.specs.Prelude.{ℕ, ◌+◌, ◌*◌, ◌/◌, ◌%◌, cond, List, [], ◌∷◌, eqb, ltb, Result, Ok, Err}
use Rattle.berlength.specs.declared.Length.{Length}
use Rattle.berlength.specs.declared.NoLength.{NoLength}
use Rattle.berlength.specs.declared.NoLength.TheVariants.{Missing, WrongForm}

-- a value, and how many bytes its length takes
abbrev pub of : ℕ → ℕ → Result Length NoLength
of value octets = Ok (record { value = value; octets = octets })

-- one byte behind 81: 128 at least
abbrev pub one_byte : List ℕ → Result Length NoLength
one_byte [] = Err Missing
one_byte (a ∷ w) = cond (ltb a 128) (Err WrongForm) (of a 2)

-- two bytes behind 82: 256 at least
abbrev pub two_bytes : List ℕ → Result Length NoLength
two_bytes [] = Err Missing
two_bytes (a ∷ []) = Err Missing
two_bytes (a ∷ b ∷ w) = cond (ltb (a * 256 + b) 256) (Err WrongForm) (of (a * 256 + b) 3)

-- the length at the front of bytes, in its shortest form: its value, and how many bytes it takes
abbrev pub length_of : List ℕ → Result Length NoLength
length_of [] = Err Missing
length_of (a ∷ w) = cond (ltb a 0x80) (of a 1) (cond (eqb a 0x81) (one_byte w) (cond (eqb a 0x82) (two_bytes w) (Err WrongForm)))

-- a value in its shortest form: 00 to 7F; 81 and one byte; 82 and two bytes
abbrev pub shortest : ℕ → List ℕ
shortest n = cond (ltb n 128) (n ∷ []) (cond (ltb n 256) (0x81 ∷ n ∷ []) (0x82 ∷ n / 256 ∷ n % 256 ∷ []))
