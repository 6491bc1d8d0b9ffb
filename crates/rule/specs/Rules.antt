-- The value rules of document 01, on words of any length, and the first byte that makes a broken rule certain.
use Rattle.std.specs.Prelude.{ℕ, suc, ◌-◌, ◌*◌, ◌/◌, ◌^◌, ◌≤◌, ◌<◌, Bool, ◌||◌, cond, List, Result, Ok, Err, length, take, leb, eqb}
use Rattle.verdict.specs.declared.Reason.TheVariants.{ValueLength}
use Rattle.verdict.specs.declared.Refusal.{Refusal}
use Rattle.rule.specs.declared.rules.Rule.{Rule}
use Rattle.rule.specs.declared.rules.Form.{Form}
use Rattle.word.specs.Digits.{value_of}

-- a word with its sign cleared, where it is set; a sign of 0 is none
abbrev pub cleared : ℕ → ℕ → ℕ
cleared sign word = cond (leb sign word) (word - sign) word

-- a word keeps its rule: with the sign cleared, it is at most the greatest
abbrev pub Keeps : Rule → ℕ → Type 0
Keeps rule word = cleared rule.sign word ≤ rule.greatest

-- the same as a test
abbrev pub admitted : Rule → ℕ → Bool
admitted rule word = leb (cleared rule.sign word) rule.greatest

-- a word that begins with these bytes breaks its rule for certain: even with zeros behind them it is over its limit
abbrev pub Breaks : Rule → List ℕ → Type 0
Breaks rule begun = rule.greatest < cleared rule.sign (value_of 256 begun * 256 ^ (rule.length - length begun))

-- the first byte that makes it certain stands at this place of the word
pub record BreaksAt (rule : Rule) (word : List ℕ) (place : ℕ) : Type 0 where
  pub within : place < length word
  pub broken : Breaks rule (take (suc place) word)
  pub before : Breaks rule (take place word) → ⊥

-- mapped words of L bytes: at most 2^(8L − 1), and in 0 bytes only the word 0
abbrev pub mapped_rule : ℕ → Rule
mapped_rule n = record { length = n; sign = 0; greatest = 256 ^ n / 2 }

-- an IEEE format: its length, its greatest deviation and its one
pub record Format : Type 0 where
  pub bytes : ℕ
  pub greatest : ℕ
  pub one : ℕ

abbrev pub half : Format
half = record { bytes = 2; greatest = 0x7BFF; one = 0x3C00 }

abbrev pub single : Format
single = record { bytes = 4; greatest = 0x7F7FFFFF; one = 0x3F800000 }

abbrev pub double : Format
double = record { bytes = 8; greatest = 0x7FEFFFFFFFFFFFFF; one = 0x3FF0000000000000 }

-- an IEEE deviation: finite with the sign clear
abbrev pub deviations : Format → Rule
deviations f = record { length = f.bytes; sign = 0; greatest = f.greatest }

-- an IEEE coefficient: with the sign bit cleared, at most one
abbrev pub coefficients : Format → Rule
coefficients f = record { length = f.bytes; sign = 256 ^ f.bytes / 2; greatest = f.one }

-- the lengths allowed: mapped 0 to 8, IEEE 0, 2, 4, 8
abbrev pub allowed : Bool → ℕ → Bool
allowed mapped n = cond mapped (leb n 8) (eqb n 0 || (eqb n 2 || (eqb n 4 || eqb n 8)))

-- the rule of an IEEE length; in 0 bytes only the word 0
abbrev pub ieee_rule : (Format → Rule) → ℕ → Rule
ieee_rule rule n = cond (eqb n 2) (rule half) (cond (eqb n 4) (rule single) (cond (eqb n 8) (rule double) (mapped_rule 0)))

abbrev pub rule_of_deviations : Bool → ℕ → Rule
rule_of_deviations mapped n = cond mapped (mapped_rule n) (ieee_rule deviations n)

abbrev pub rule_of_coefficients : Bool → ℕ → Rule
rule_of_coefficients mapped n = cond mapped (mapped_rule n) (ieee_rule coefficients n)

-- the rule of words of a form
abbrev pub rule_of : Form → Rule
rule_of form = cond form.coefficients (rule_of_coefficients form.mapped form.length) (rule_of_deviations form.mapped form.length)

-- the rule where the format allows the length, else refused 6
abbrev pub ruled_by : Bool → ℕ → Rule → Result Rule Refusal
ruled_by mapped n rule = cond (allowed mapped n) (Ok rule) (Err (record { reason = ValueLength; place = 0 }))
