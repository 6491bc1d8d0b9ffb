-- The letter of a frame's kind, in ASCII.
use Rattle.std.specs.Prelude.{ℕ}
use Rattle.outcome.specs.declared.Kind.{Kind}
use Rattle.outcome.specs.declared.Kind.TheVariants.{Matrix, Array, Unknown}

-- S a matrix, M an array, - where the key is not known
abbrev pub letter_of : Kind → ℕ
letter_of Matrix = 83
letter_of Array = 77
letter_of Unknown = 45
