-- Reading what was written gives the word, and writing what was read leaves the bytes. Assumes nothing.
use Prim.Native.Nat.{ℕ, zero, suc, ◌+◌, ◌-◌, ◌^◌, ◌≤◌, ◌<◌}
use mathlib.Core.Path.{◌≡◌, refl, sym, ◌∙◌, ap}
use mathlib.Core.Bool.{Bool, true, false, cond}
use mathlib.Core.List.{List}
use native.Mathlib.Omega.{arith}
use borrow.Author.Tests.{ltb-false, leb-false, le-ltb}
use lib.Dec.{ltb}
use lib.ListN.{length, take, drop, length-append, length-take, length-drop, take-append-drop}
use lib.Seq.{take_at, drop-drop, length-take-le}
use Rattle.verdict.specs.declared.Reason.TheVariants.{ValueLength}
use Rattle.verdict.specs.declared.Verdict.TheVariants.{Complete}
use Rattle.verdict.specs.Writing.{put}
use Rattle.verdict.proofs.Deciding.{written_well}
use Rattle.verdict.proofs.Putting.{drop_put}
use Rattle.std.specs.Prelude.{Ok, Err}
use Rattle.verdict.specs.declared.Stop.TheVariants.{Unfinished, Refused}
use Rattle.word.specs.Digits.{digits, value_of}
use Rattle.word.specs.Bytes.{word_at, word_of, read_of, word_rows, Written}
use Rattle.word.proofs.Digits.{Below, below_drop, length_digits, value_digits, digits_take}
use Rattle.word.proofs.Whole.{read_whole, bytes_word}

put_length : (out : List ℕ) (place n word : ℕ) → n ≤ length out - place → length (put out place (digits 256 n word)) ≡ length out
unfolding put
put_length out place n word h = simp (length-append, length-take, length-drop, length_digits) (omega arith)

put_there : (out : List ℕ) (place n word : ℕ) → n ≤ length out - place → take n (drop place (put out place (digits 256 n word))) ≡ digits 256 n word
unfolding digits
put_there out place zero word h = refl
put_there out place (suc n) word h =
    ap (take (suc n)) (drop_put out place (digits 256 (suc n) word) (omega arith)) ∙ take_at (digits 256 (suc n) word) (drop (place + length (digits 256 (suc n) word)) out) (suc n) (length_digits 256 (suc n) word)

-- the word stands where it was put
read_put : (out : List ℕ) (place n word : ℕ) → n ≤ 8 → word < 256 ^ n → n ≤ length out - place → read_of (put out place (digits 256 n word)) place n ≡ Ok word
read_put out place n word short fits room =
    let l : length (digits 256 n word) ≡ n = length_digits 256 n word in
    let bytes : take n (drop place (put out place (digits 256 n word))) ≡ digits 256 n word = put_there out place n word room in
    let there : n ≤ length (put out place (digits 256 n word)) - place = omega (arith, put_length out place n word room) in
    simp (le-ltb 8 n short, le-ltb _ n there) (ap Ok (ap (value_of 256) bytes ∙ value_digits 256 n word (omega arith) fits))

pub read_written : (out : List ℕ) (place n word k : ℕ) (out' : List ℕ) → Written out place n word (Complete k) out' → read_of out' place n ≡ Ok word
read_written out place n word k out' w =
    let x = written_well (word_rows out place n word) (digits 256 n word) out place k out' w in
    let room = ltb-false (length out - place) n x.0.1.1.0 in
    ap (λ (bs : List ℕ). read_of bs place n) x.1.1 ∙ read_put out place n word (ltb-false 8 n x.0.0) (leb-false (256 ^ n) word x.0.1.0) room

-- a word that was read is there, and is the word at its place
read_there : (s : List ℕ) (place n w : ℕ) → read_of s place n ≡ Ok w → (n ≤ length s - place) × (w ≡ word_at s place n)
read_there s place n w = by (ltb 8 n) (ltb (length s - place) n) refl
  where
    by : (a b : Bool) → ltb (length s - place) n ≡ b
        → cond a (Err (Refused (record { reason = ValueLength; place = 0 }))) (cond b (Err (Unfinished (n - (length s - place)))) (Ok (word_at s place n))) ≡ Ok w
        → (n ≤ length s - place) × (w ≡ word_at s place n)
    by true b p e = absurd (let z : ◌≡◌ {A = ℕ} 0 1 = cc in omega arith)
    by false true p e = absurd (let z : ◌≡◌ {A = ℕ} 0 1 = cc in omega arith)
    by false false p e = (ltb-false (length s - place) n p, cc)

pub written_read : (s : List ℕ) (place n w : ℕ) → Below 256 s → read_of s place n ≡ Ok w → put s place (digits 256 n w) ≡ s
unfolding put
written_read s place n w f e =
    let t = read_there s place n w e in
    let there : n ≤ length (drop place s) = rw length-drop t.0 in
    let l : length (take n (drop place s)) ≡ n = length-take-le n (drop place s) there in
    let d : digits 256 n w ≡ take n (drop place s) = ap (digits 256 n) t.1 ∙ digits_take 256 n (drop place s) (below_drop place s f) there in
    rw (d, l, ← drop-drop, take-append-drop, take-append-drop)

-- ---- the same of the word that the bytes there are

pub word_written : (out : List ℕ) (place n word k : ℕ) (out' : List ℕ) → Written out place n word (Complete k) out' → place + n ≤ length out' → word_of (take n (drop place out')) ≡ word
word_written out place n word k out' w l =
    let x = written_well (word_rows out place n word) (digits 256 n word) out place k out' w in
    bytes_word out' place n (ltb-false 8 n x.0.0) l ∙ sym (read_there out' place n word (read_written out place n word k out' w)).1

pub written_word : (s : List ℕ) (place n : ℕ) → Below 256 s → n ≤ 8 → place + n ≤ length s → put s place (digits 256 n (word_of (take n (drop place s)))) ≡ s
written_word s place n f short l = written_read s place n (word_of (take n (drop place s))) f (read_whole s place n short l ∙ ap Ok (sym (bytes_word s place n short l)))
