-- What a matrix pack means, and the rules that a lawful meaning keeps.
use Rattle.std.specs.Prelude.{ℕ, ◌+◌, ◌-◌, ◌*◌, ◌/◌, ◌≤◌, ◌<◌, min, ◌≡◌, Bool, true, false, not, ◌&&◌, cond, List, [], ◌∷◌, length, get_or, eqb}
use Rattle.rule.specs.Rules.{Keeps, allowed, rule_of_deviations, rule_of_coefficients}
use Rattle.rule.specs.Scaled.{nought_of}
use Rattle.matrix.specs.declared.Fields.{Fields}
use Rattle.matrix.specs.declared.Told.{Told}

-- M, how many pairs of variables there are
abbrev pub pairs : ℕ → ℕ
pairs n = n * (n - 1) / 2

-- the size and control fields, N deviation words, M marks (1 sent, 0 not sent) and M coefficient words; pairs in the upper triangle's order, by rows
pub record Matrix : Type 0 where
  pub fields : Fields
  pub deviations : List ℕ
  pub marks : List ℕ
  pub coefficients : List ℕ

-- a sum; of marks, how many coefficients are sent
unfoldable pub sum : List ℕ → ℕ
sum [] = 0
sum (x ∷ xs) = x + sum xs

-- the nought of a format and length: 2^(8L − 2) mapped, 0 IEEE, 0 in 0 bytes
abbrev pub nought : Fields → ℕ
nought f = cond f.cf (nought_of f.clen) 0

-- whether a flag says mapped of values that have no bytes: in Mode 2, as Mode 1 has no such flags
abbrev pub alone : Bool → Bool → ℕ → Bool
alone mode1 mapped length = (mapped && eqb length 0) && not mode1

-- the rules of the size, and of what Mode 2 says in control byte 1
pub record LawfulFirst (f : Fields) : Type 0 where
  pub size_least : 1 ≤ f.n
  pub size_most : f.n ≤ 64
  pub coefficient_length : allowed f.cf f.clen ≡ true
  pub coefficient_flag : alone f.mode1 f.cf f.clen ≡ false
  pub sparse : f.cs ≡ true → 0 < f.clen
  pub size_one : f.n ≡ 1 → f.clen ≡ 0

-- and of what it says in control byte 2; Mode 1 says all in one byte
pub record LawfulFields (f : Fields) : Type 0 where
  pub first : LawfulFirst f
  pub deviation_length : allowed f.sf f.slen ≡ true
  pub deviation_flag : alone f.mode1 f.sf f.slen ≡ false
  pub some_length : 0 < f.slen + f.clen

-- what Mode 1 asks of the fields: it is let in, coefficients are mapped, deviations as told, and each length has three bits
pub record Mode1 (told : Told) (f : Fields) : Type 0 where
  pub let_in : told.mode1 ≡ true
  pub coefficient_format : f.cf ≡ true
  pub deviation_format : f.sf ≡ told.mapped
  pub coefficient_room : f.clen ≤ 7
  pub deviation_room : f.slen ≤ 7

-- what is told where a deviation format is stated: Mode 1 is let in
abbrev pub stating : Bool → Told
stating mapped = record { mode1 = true; mapped = mapped }

-- fields of either mode under what was told; Mode 2 does not see it
abbrev pub Fits : Told → Fields → Type 0
Fits told f = f.mode1 ≡ true → Mode1 told f

-- the rules of the values, in the format and length of the fields
pub record LawfulValues (m : Matrix) : Type 0 where
  pub deviation_count : length m.deviations ≡ m.fields.n
  pub mark_count : length m.marks ≡ pairs m.fields.n
  pub coefficient_count : length m.coefficients ≡ pairs m.fields.n
  pub deviation_rule : (i : ℕ) → i < m.fields.n → Keeps (rule_of_deviations m.fields.sf m.fields.slen) (get_or m.deviations i 0)
  pub mark_rule : (i : ℕ) → get_or m.marks i 0 ≤ 1
  pub all_sent : m.fields.cs ≡ false → (i : ℕ) → i < pairs m.fields.n → get_or m.marks i 0 ≡ min 1 m.fields.clen
  pub coefficient_rule : (i : ℕ) → get_or m.marks i 0 ≡ 1 → Keeps (rule_of_coefficients m.fields.cf m.fields.clen) (get_or m.coefficients i 0)
  pub not_sent : (i : ℕ) → i < pairs m.fields.n → get_or m.marks i 0 ≡ 0 → get_or m.coefficients i 0 ≡ nought m.fields
  pub some_value : 0 < m.fields.slen + sum m.marks

pub record Lawful (m : Matrix) : Type 0 where
  pub fields : LawfulFields m.fields
  pub values : LawfulValues m
