-- Upper-case hexadecimal: texts that are pairs of digits, and the bytes that they spell.
use Rattle.std.specs.Prelude.{ℕ, ◌+◌, ◌-◌, ◌*◌, ◌/◌, ◌%◌, Bool, true, false, not, ◌&&◌, ◌||◌, cond, List, [], ◌∷◌, ◌++◌, length, leb}
use Rattle.verdict.specs.declared.Reason.TheVariants.{Character}
use Rattle.verdict.specs.declared.Verdict.{Verdict}
use Rattle.verdict.specs.Rows.{Row}
use Rattle.verdict.specs.Writing.{room_rows, WrittenBy}

-- 0 to 9 and A to F, in ASCII
abbrev pub is_digit : ℕ → Bool
is_digit c = (leb 48 c && leb c 57) || (leb 65 c && leb c 70)

-- the value of a digit
abbrev pub digit_of : ℕ → ℕ
digit_of c = cond (leb c 57) (c - 48) (c - 55)

-- whether a text is pairs of digits
unfoldable pub is_hex : List ℕ → Bool
is_hex [] = true
is_hex (a ∷ []) = false
is_hex (a ∷ b ∷ text) = is_digit a && (is_digit b && is_hex text)

-- the bytes that its pairs spell
unfoldable pub hex_of : List ℕ → List ℕ
hex_of [] = []
hex_of (a ∷ []) = []
hex_of (a ∷ b ∷ text) = (digit_of a * 16 + digit_of b) ∷ hex_of text

-- the character of a digit's value: 0 to 9, A to F
abbrev pub character_of : ℕ → ℕ
character_of value = cond (leb value 9) (48 + value) (55 + value)

-- the text of bytes: two characters a byte
unfoldable pub spelling : List ℕ → List ℕ
spelling [] = []
spelling (b ∷ bytes) = character_of (b / 16) ∷ character_of (b % 16) ∷ spelling bytes

-- decoding's rules in their order: 20 where a text is not pairs of digits, then 13
abbrev pub hex_rows : List ℕ → List ℕ → List Row
hex_rows text out = (record { broken = not (is_hex text); reason = Character } ∷ []) ++ room_rows (length (hex_of text)) (length out)

-- the bytes of a text stand at the front of `out`
abbrev pub Decoded : List ℕ → List ℕ → Verdict → List ℕ → Type 0
Decoded text out = WrittenBy (hex_rows text out) (hex_of text) out 0
