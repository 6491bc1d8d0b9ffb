-- What the writer accepts, and that packs survive the way through reader and writer. Assumes nothing.
use Prim.Native.Nat.{ℕ, ◌≤◌}
use mathlib.Core.Path.{◌≡◌, refl, sym, ap, ◌∙◌}
use mathlib.Core.Logic.{◌↔◌}
use mathlib.Core.List.{List, ◌++◌}
use native.Mathlib.Omega.{arith}
use borrow.Author.Tests.{le-ltb, ltb-false}
use lib.ListN.{length, take, drop}
use Rattle.verdict.specs.declared.Verdict.{Verdict}
use Rattle.verdict.specs.declared.Verdict.TheVariants.{Complete}
use Rattle.verdict.specs.Says.{Bytes}
use Rattle.verdict.specs.Writing.{room_rows, WrittenBy}
use Rattle.verdict.proofs.Judging.{Kept}
use Rattle.verdict.proofs.Deciding.{kept_both, both_kept, written_complete, kept_written}
use Rattle.array.specs.Meaning.{Array, Lawful}
use Rattle.array.specs.Spelling.{bytes_of}
use Rattle.array.specs.Decoded.{meaning_of}
use Rattle.array.specs.Machine.{verdict_of}
use Rattle.theorems.proofs.ArrayVerdicts.{array_complete}
use Rattle.array.proofs.Decoding.{meaning_back}
use Rattle.array.proofs.Complete.{complete_meaning, complete_count}
use Rattle.arraywriter.specs.Given.{meaning_given, given_rows, writer_rows}
use Rattle.arraywriter.proofs.Given.{given_lawful, lawful_given}

-- the writer accepts exactly the lawful meanings that there is room for
pub writer_accepts : (sizes : List ℕ) (element : ℕ) (body out : List ℕ) → Bytes body → (Kept (writer_rows sizes element body out) ↔ (Lawful (meaning_given sizes element body) × (length (bytes_of (meaning_given sizes element body)) ≤ length out)))
writer_accepts sizes element body out b =
    let needed = length (bytes_of (meaning_given sizes element body)) in
    let rules = given_rows sizes element body in
    let room = room_rows needed (length out) in (
      λ k. (given_lawful sizes element body (both_kept rules room k).0 b, ltb-false (length out) needed (both_kept rules room k).1.0),
      λ g. kept_both rules room (lawful_given sizes element body g.0) (le-ltb (length out) needed g.1, tt),
    )

-- what was written is a complete pack, and is read back with anything behind it
pub written_means : (sizes : List ℕ) (element : ℕ) (body out : List ℕ) (n : ℕ) (out' : List ℕ) → Bytes body
    → WrittenBy (writer_rows sizes element body out) (bytes_of (meaning_given sizes element body)) out 0 (Complete n) out'
    → (verdict_of out' ≡ Complete n) × (meaning_of out' ≡ meaning_given sizes element body)
written_means sizes element body out n out' b w =
    let a = meaning_given sizes element body in
    let x = written_complete (writer_rows sizes element body out) (bytes_of a) out n out' w in
    let g : Lawful a = ((writer_accepts sizes element body out b).0 x.0).0 in (
      ap verdict_of x.1.1 ∙ array_complete (bytes_of a) (drop n out) (record { meaning = a; lawful = g; spelled = refl }) ∙ ap Complete (sym x.1.0),
      ap meaning_of x.1.1 ∙ meaning_back a g (drop n out),
    )

-- a lawful meaning that there is room for is written
lawful_written : (a : Array) (out : List ℕ) (answer : Verdict) (out' : List ℕ) → Lawful a → length (bytes_of a) ≤ length out
    → WrittenBy (writer_rows a.sizes a.element a.body out) (bytes_of a) out 0 answer out'
    → (answer ≡ Complete (length (bytes_of a))) × (out' ≡ bytes_of a ++ drop (length (bytes_of a)) out)
lawful_written a out answer out' g h w =
    let k : Kept (writer_rows a.sizes a.element a.body out) = (writer_accepts a.sizes a.element a.body out g.body_bytes).1 (g, h) in
    kept_written (writer_rows a.sizes a.element a.body out) (bytes_of a) out answer out' k w

-- writing what was read gives the pack's bytes
pub read_written : (bytes : List ℕ) → Bytes bytes → (n : ℕ) → verdict_of bytes ≡ Complete n → (out : List ℕ) → n ≤ length out → (answer : Verdict) (out' : List ℕ)
    → WrittenBy (writer_rows (meaning_of bytes).sizes (meaning_of bytes).element (meaning_of bytes).body out) (bytes_of (meaning_of bytes)) out 0 answer out'
    → (answer ≡ Complete n) × (out' ≡ take n bytes ++ drop n out)
read_written bytes b n e out h answer out' w =
    let m = complete_meaning bytes b n e in
    let count : length (bytes_of (meaning_of bytes)) ≡ n = complete_count bytes b n e in
    let x = lawful_written (meaning_of bytes) out answer out' m.0 (omega arith) w in
    (x.0 ∙ ap Complete count, x.1 ∙ rw (count, m.1))
