-- What fields that a writer is given are answered; and, for private functions alone, the rules that several of the tables' lists have.
use Rattle.std.specs.Prelude.{ℕ, Bool, not, List, [], ◌∷◌, Result, Ok, Err}
use Rattle.rule.specs.Rules.{allowed}
use Rattle.verdict.specs.declared.Reason.{Reason}
use Rattle.verdict.specs.declared.Reason.TheVariants.{ValueLength, FormatAlone}
use Rattle.verdict.specs.declared.Refusal.{Refusal}
use Rattle.verdict.specs.declared.Stop.{Stop}
use Rattle.verdict.specs.declared.Stop.TheVariants.{Refused as StopRefused}
use Rattle.verdict.specs.Rows.{Row}
use Rattle.matrix.specs.declared.Fields.{Fields}
use Rattle.matrix.specs.Meaning.{alone}
use Rattle.matrix.specs.Table.{sparse_row, size_one_row}

-- the first broken rule's refusal, as every writer's at place 0
abbrev pub allowed_by : Result Unit Reason → Result Unit Refusal
allowed_by (Ok kept) = Ok tt
allowed_by (Err reason) = Err (record { reason = reason; place = 0 })

-- the first broken rule's refusal at the place of its byte
abbrev pub judged_at : Result Unit Reason → ℕ → Result Unit Stop
judged_at (Ok kept) place = Ok tt
judged_at (Err reason) place = Err (StopRefused (record { reason = reason; place = place }))

-- of a length in a format: 6
abbrev pub length_rows : Bool → ℕ → List Row
length_rows mapped length = record { broken = not (allowed mapped length); reason = ValueLength } ∷ []

-- of a length and the flag beside it: 6, 16
abbrev pub format_rows : Bool → Bool → ℕ → List Row
format_rows mode1 mapped length = record { broken = not (allowed mapped length); reason = ValueLength } ∷ record { broken = alone mode1 mapped length; reason = FormatAlone } ∷ []

-- of whether coefficients have bytes: 7, 8
abbrev pub presence_rows : Fields → List Row
presence_rows f = sparse_row f ∷ size_one_row f ∷ []
