-- A word whose bytes are there is read. Assumes nothing.
use Prim.Native.Nat.{ℕ, ◌+◌, ◌-◌, ◌≤◌}
use mathlib.Core.Path.{◌≡◌, ◌∙◌, ap}
use mathlib.Core.List.{List}
use native.Mathlib.Omega.{arith}
use borrow.Author.Tests.{le-ltb}
use lib.ListN.{length, take, drop, length-drop}
use lib.Seq.{take-take, length-take-le}
use Rattle.std.specs.Prelude.{Result, Ok, Err}
use Rattle.verdict.specs.declared.Stop.{Stop}
use Rattle.word.specs.Digits.{value_of}
use Rattle.word.specs.Bytes.{word_at, word_of, read_of}

-- the word in what was read
abbrev pub word_in : Result ℕ Stop → ℕ
word_in (Ok word) = word
word_in (Err stop) = 0

pub read_whole : (bytes : List ℕ) (place n : ℕ) → n ≤ 8 → place + n ≤ length bytes → read_of bytes place n ≡ Ok (word_at bytes place n)
read_whole bytes place n h l = simp (le-ltb 8 n h, le-ltb (length bytes - place) n (omega arith))

-- and from its bytes alone
pub read_part : (bytes : List ℕ) (place n : ℕ) → n ≤ 8 → place + n ≤ length bytes → read_of (take (place + n - place) (drop place bytes)) 0 n ≡ Ok (word_at bytes place n)
read_part bytes place n h l =
    let e : place + n - place ≡ n = omega arith in
    let few : n ≤ length (drop place bytes) = rw length-drop (omega arith) in
    let all : 0 + n ≤ length (take n (drop place bytes)) = rw (length-take-le n (drop place bytes) few) (omega arith) in
    rw e (read_whole (take n (drop place bytes)) 0 n h all ∙ ap (λ (bs : List ℕ). Ok (value_of 256 bs)) (take-take n n (drop place bytes) (omega arith)))

-- the word that so many of the bytes are
pub bytes_word : (bytes : List ℕ) (place n : ℕ) → n ≤ 8 → place + n ≤ length bytes → word_of (take n (drop place bytes)) ≡ word_at bytes place n
bytes_word bytes place n h l =
    let few : n ≤ length (drop place bytes) = rw length-drop (omega arith) in
    rw (length-take-le n (drop place bytes) few, le-ltb 8 n h)

-- and as a slice of them is cut
pub part_word : (bytes : List ℕ) (place n : ℕ) → n ≤ 8 → place + n ≤ length bytes → word_of (take (place + n - place) (drop place bytes)) ≡ word_at bytes place n
part_word bytes place n h l = let e : place + n - place ≡ n = omega arith in rw e (bytes_word bytes place n h l)
