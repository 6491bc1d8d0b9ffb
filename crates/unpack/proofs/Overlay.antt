-- Words read over the first entries of a lent list. Assumes nothing.
use Prim.Native.Nat.{ℕ, ◌+◌, ◌-◌, ◌*◌, ◌≤◌}
use mathlib.Core.Path.{◌≡◌, refl, ◌∙◌}
use mathlib.Core.List.{List, ◌++◌}
use native.Mathlib.Omega.{arith}
use lib.ListN.{length, take, drop, length-drop}
use lib.Seq.{length-take-le}
use Rattle.std.specs.Prelude.{Result, Ok, Err}
use Rattle.std.specs.Result.{IsOk}
use Rattle.verdict.specs.Answers.{written}
use Rattle.verdict.specs.declared.Refusal.{Refusal}
use Rattle.verdict.specs.declared.Verdict.{Verdict}
use Rattle.verdict.specs.declared.Verdict.TheVariants.{Complete}
use Rattle.verdict.proofs.Deciding.{decided_kept}
use Rattle.verdict.specs.Lent.{over}
use Rattle.word.specs.Many.{words_in, ReadInto}
use Rattle.word.proofs.Words.{length_words, words_take, whole_kept, left_whole}

module _ (bytes out : List ℕ) (place n number : ℕ) (short : n ≤ 8) (there : place + number * n ≤ length bytes) (room : number ≤ length out) where
  abbrev part : List ℕ
  part = take (place + number * n - place) (drop place bytes)

  few : number * n ≤ length (drop place bytes)
  few = rw length-drop (omega arith)

  e : place + number * n - place ≡ number * n
  e = omega arith

  l : length (take number out) ≡ number
  l = length-take-le number out room

  held : length part ≡ length (take number out) * n
  held = rw (l, e) (length-take-le (number * n) (drop place bytes) few)

  -- all of them are read
  pub words_read : (answer : Result ℕ Refusal) (left : List ℕ) → ReadInto part n (take number out) (written answer) left → IsOk answer
  words_read answer left r = complete answer (r.said ∙ decided_kept _ _ (whole_kept n (length (take number out)) (length part) short held))
    where
      complete : (answer : Result ℕ Refusal) {count : ℕ} → written answer ≡ Complete count → IsOk answer
      complete (Ok count) e = refl
      complete (Err refusal) e = absurd (cc)

  pub words_over : (answer : Verdict) (left : List ℕ) → ReadInto part n (take number out) answer left
      → left ++ drop number out ≡ over (words_in n number (drop place bytes)) out
  words_over answer left r =
      let is = left_whole n (length (take number out)) (length part) (words_in n (length (take number out)) part) (take number out) answer left r short held (length_words n (length (take number out)) part) in
      rw (is, l, e, words_take n number (number * n) (drop place bytes) (omega arith) few, length_words n number (drop place bytes))
