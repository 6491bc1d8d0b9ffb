-- When two meanings of matrix packs are one matrix.
use Rattle.std.specs.Prelude.{◌<◌, ◌≡◌}
use Rattle.matrix.specs.Meaning.{Matrix}

-- the same mode, size, lengths, formats where there are bytes, marks and words
pub record SameValues (m k : Matrix) : Type 0 where
  pub mode : m.fields.mode1 ≡ k.fields.mode1
  pub size : m.fields.n ≡ k.fields.n
  pub coefficient_length : m.fields.clen ≡ k.fields.clen
  pub deviation_length : m.fields.slen ≡ k.fields.slen
  pub coefficient_format : 0 < m.fields.clen → m.fields.cf ≡ k.fields.cf
  pub deviation_format : 0 < m.fields.slen → m.fields.sf ≡ k.fields.sf
  pub deviations : m.deviations ≡ k.deviations
  pub marks : m.marks ≡ k.marks
  pub coefficients : m.coefficients ≡ k.coefficients

-- and both sparse, or neither
pub record SameMatrix (m k : Matrix) : Type 0 where
  pub values : SameValues m k
  pub sparse : m.fields.cs ≡ k.fields.cs
