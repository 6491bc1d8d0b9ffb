-- For private functions alone: a lent list of which the first entries are filled.
use Rattle.std.specs.Prelude.{ℕ, List, ◌++◌, take, drop}

-- the first so many values over the first entries of a list
abbrev pub over_first : {A : Type 0} → ℕ → List A → List A → List A
over_first count values out = take count values ++ drop count out
