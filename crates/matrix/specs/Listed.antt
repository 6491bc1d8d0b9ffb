-- The size, the control fields and the mode as numbers, the fields in document 01's order.
use Rattle.std.specs.Prelude.{ℕ, cond, List, [], ◌∷◌}
use Rattle.matrix.specs.declared.Fields.{Fields}
use Rattle.matrix.specs.Header.{bit}

-- N, Cs, Cf, Clen, Sf, Slen, yes as 1 and no as 0; the mode, 1 or 2
abbrev pub field_numbers : Fields → List ℕ
field_numbers f = f.n ∷ bit f.cs ∷ bit f.cf ∷ f.clen ∷ bit f.sf ∷ f.slen ∷ cond f.mode1 1 2 ∷ []
