-- The expanded matrix is symmetric, words and marks. Assumes nothing.
use Prim.Native.Nat.{ℕ, ◌+◌, ◌*◌, ◌<◌}
use mathlib.Core.Path.{◌≡◌, ◌∙◌, sym}
use lib.ListN.{get_or}
use Rattle.matrix.specs.Meaning.{Matrix}
use Rattle.matrix.specs.Expanded.{expanded_words, expanded_marks}
use Rattle.matrix.proofs.Expanded.{word_either, mark_either, expanded_word, expanded_mark}

pub words_symmetric : (m : Matrix) (i j : ℕ) → i < m.fields.n → j < m.fields.n → get_or (expanded_words m) (i * m.fields.n + j) 0 ≡ get_or (expanded_words m) (j * m.fields.n + i) 0
words_symmetric m i j h k = expanded_word m i j h k ∙ word_either m i j ∙ sym (expanded_word m j i k h)

pub marks_symmetric : (m : Matrix) (i j : ℕ) → i < m.fields.n → j < m.fields.n → get_or (expanded_marks m) (i * m.fields.n + j) 0 ≡ get_or (expanded_marks m) (j * m.fields.n + i) 0
marks_symmetric m i j h k = expanded_mark m i j h k ∙ mark_either m i j ∙ sym (expanded_mark m j i k h)
