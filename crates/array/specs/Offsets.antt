-- Which indices an array has, and how many elements stand before the one at them.
use Rattle.std.specs.Prelude.{ℕ, ◌+◌, ◌*◌, Bool, true, false, ◌&&◌, List, [], ◌∷◌, ltb}
use Rattle.array.specs.Meaning.{product}

-- whether indices are as many as the sizes, and each below its size
unfoldable pub inside : List ℕ → List ℕ → Bool
inside [] [] = true
inside [] (x ∷ xs) = false
inside (s ∷ sizes) [] = false
inside (s ∷ sizes) (x ∷ xs) = ltb x s && inside sizes xs

-- how many elements stand before the one at these indices, by Appendix A of ST 1303: each index times the product of the later sizes
unfoldable pub offset : List ℕ → List ℕ → ℕ
offset [] xs = 0
offset (s ∷ sizes) [] = 0
offset (s ∷ sizes) (x ∷ xs) = x * product sizes + offset sizes xs
