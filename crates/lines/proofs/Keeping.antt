-- Laws of the line buffer: what is kept of a piece, and how many characters are held, at once. Assumes nothing.
use Prim.Native.Nat.{ℕ, zero, suc, ◌+◌, ◌-◌, ◌≤◌, ◌<◌, min}
use mathlib.Core.Path.{◌≡◌, refl, ◌∙◌, sym}
use mathlib.Core.List.{List, [], ◌∷◌}
use native.Mathlib.Omega.{arith}
use borrow.Author.Tests.{ltb-true, ltb-false}
use lib.ListN.{length, take, length-set}
use lib.Seq.{take-nil}
use lib.Dec.{ltb}
use Rattle.verdict.proofs.Cases.{either}
use Rattle.lines.specs.Taking.{longest_line, held_on, kept_all, held_all}
use Rattle.verdict.specs.Writing.{put}
use Rattle.verdict.proofs.Putting.{put_none, put_one, put_put}

-- with characters more, the count stops one past the longest line
held_more : (held count : ℕ) → held_all held (suc count) ≡ min (held + suc count) (longest_line + 1)
unfolding held_all
held_more held zero = refl
held_more held (suc count) = held_more (held_on held) count ∙ omega arith

pub held_all_lem : (held count : ℕ) → (count ≡ 0 → ⊥) → held_all held count ≡ min (held + count) (longest_line + 1)
held_all_lem held zero h = absurd (h refl)
held_all_lem held (suc count) h = held_more held count

-- what has room is kept, behind what is held
pub kept_all_lem : (buffer : List ℕ) (held : ℕ) (piece : List ℕ) → longest_line ≤ length buffer → kept_all buffer held piece ≡ put buffer held (take (min (length piece) (longest_line - held)) piece)
unfolding kept_all
kept_all_lem buffer held [] h = rw take-nil (sym (put_none buffer held))
kept_all_lem buffer held (c ∷ piece) h =
    either (ltb held longest_line)
    (λ t.
    let b : held < longest_line = ltb-true held longest_line t in
    let e : min (suc (length piece)) (longest_line - held) ≡ suc (min (length piece) (longest_line - (held + 1))) = omega arith in
    let on : held_on held ≡ held + 1 = omega arith in
    rw (t, on, e, put_one buffer held c (omega arith), kept_all_lem (put buffer held (c ∷ [])) (held + 1) piece (rw (← put_one buffer held c (omega arith), length-set) h))
    (put_put buffer held (c ∷ []) (take (min (length piece) (longest_line - (held + 1))) piece) (omega arith)))
    (λ t.
    let b : longest_line ≤ held = ltb-false held longest_line t in
    let e : min (suc (length piece)) (longest_line - held) ≡ 0 = omega arith in
    let on : min (length piece) (longest_line - held_on held) ≡ 0 = omega arith in
    rw (t, kept_all_lem buffer (held_on held) piece h, on, e) (put_none buffer (held_on held) ∙ sym (put_none buffer held)))
