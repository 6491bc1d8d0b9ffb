-- Laws of the loop that fills a word's bytes, from its last on. Assumes nothing.
use Prim.Native.Nat.{ℕ, suc, ◌+◌, ◌-◌, ◌/◌, ◌%◌, ◌^◌, ◌≤◌, ◌<◌}
use mathlib.Core.Path.{◌≡◌, ◌∙◌, sym, ap}
use mathlib.Core.List.{List, [], ◌∷◌}
use native.Mathlib.Omega.{arith}
use borrow.Author.Tests.{lt-ltb, le-ltb, lt-leb, le-leb}
use native.Mathlib.Nat.{le_of_eq, add-suc, add-zero}
use lib.ListN.{length, take, drop, get_or, set, length-append, length-take, length-drop, drop_of_length-le}
use lib.Seq.{take_all, take-take, take_at, drop-cons, get_or-take, get_or_at}
use Rattle.verdict.specs.declared.Reason.TheVariants.{ValueLength, ValueRange, SmallBuffer}
use Rattle.verdict.specs.declared.Verdict.{Verdict}
use Rattle.verdict.specs.declared.Verdict.TheVariants.{Complete}
use Rattle.verdict.specs.Writing.{put, refusing, decided}
use Rattle.verdict.proofs.Deciding.{decided_kept}
use Rattle.verdict.proofs.Judging.{Kept}
use Rattle.verdict.proofs.Putting.{put_none, put_before}
use Rattle.word.specs.Digits.{digits}
use Rattle.word.specs.Bytes.{word_rows, Written}
use Rattle.word.proofs.Digits.{length_digits}

-- a word of n bytes is stored but for its first `left`, which are those of `rest`
pub record Stored (out₀ : List ℕ) (place n word left rest : ℕ) (out : List ℕ) : Type 0 where
  pub within : left ≤ n
  pub still : take left (digits 256 n word) ≡ digits 256 left rest
  pub is : out ≡ put out₀ (place + left) (drop left (digits 256 n word))

module _ (out₀ : List ℕ) (place n word : ℕ) where
  pub stored_none : Stored out₀ place n word n word out₀
  stored_none =
      let l : length (digits 256 n word) ≤ n = le_of_eq (length_digits 256 n word) in
      record { within = omega arith; still = take_all n (digits 256 n word) l; is = rw (drop_of_length-le (digits 256 n word) l) (sym (put_none out₀ (place + n))) }

  pub stored_more : (left rest : ℕ) (out : List ℕ) → n ≤ length out₀ - place → Stored out₀ place n word (suc left) rest out
      → Stored out₀ place n word left (rest / 256) (set out (place + left) (rest % 256))
  unfolding digits
  stored_more left rest out h s =
      let inside : left < length (digits 256 n word) = rw length_digits s.within in
      let l : length (digits 256 left (rest / 256)) ≡ left = length_digits 256 left (rest / 256) in
      let byte : get_or (digits 256 n word) left 0 ≡ rest % 256 =
      sym (get_or-take (suc left) (digits 256 n word) left 0 (omega arith))
      ∙ ap (λ (ds : List ℕ). get_or ds left 0) s.still
      ∙ get_or_at (digits 256 left (rest / 256)) (rest % 256) [] 0 left l in
      record {
        within = omega arith;
        still = sym (take-take left (suc left) (digits 256 n word) (omega arith)) ∙ ap (take left) s.still ∙ take_at (digits 256 left (rest / 256)) (rest % 256 ∷ []) left l;
        is =
            ap (λ (bs : List ℕ). set bs (place + left) (rest % 256)) s.is
            ∙ rw (add-suc, drop-cons (digits 256 n word) left 0 inside, byte) (put_before out₀ (place + left) (drop (suc left) (digits 256 n word)) (rest % 256) (omega arith));
      }

  pub stored_all : (left rest : ℕ) (out : List ℕ) → left ≤ 0 → Stored out₀ place n word left rest out → out ≡ put out₀ place (digits 256 n word)
  stored_all left rest out h s =
      let e : left ≡ 0 = omega arith in
      s.is ∙ rw (e, add-zero)

  pub stored_length : (left rest : ℕ) (out : List ℕ) → n ≤ length out₀ - place → Stored out₀ place n word left rest out → length out ≡ length out₀
  unfolding put
  stored_length left rest out h s = ap length s.is ∙ simp (length-append, length-take, length-drop, length_digits) (omega (arith, s.within))

  -- ---- what the writer answers: a refusal leaves the bytes, and the count of bytes comes with the word's

  pub length_refused : 8 < n → Written out₀ place n word (refusing ValueLength) out₀
  unfolding decided
  length_refused h = let e = lt-ltb 8 n h in record { said = rw e; left = rw e }

  pub range_refused : n ≤ 8 → 256 ^ n ≤ word → Written out₀ place n word (refusing ValueRange) out₀
  unfolding decided
  range_refused h k = let e = le-ltb 8 n h in let f = le-leb (256 ^ n) word k in record { said = rw (e, f); left = rw (e, f) }

  pub room_refused : n ≤ 8 → word < 256 ^ n → length out₀ - place < n → Written out₀ place n word (refusing SmallBuffer) out₀
  unfolding decided
  room_refused h k l =
      let e = le-ltb 8 n h in
      let f = lt-leb (256 ^ n) word k in
      let g = lt-ltb (length out₀ - place) n l in
      record { said = rw (e, f, g); left = rw (e, f, g) }

  kept_rules : n ≤ 8 → word < 256 ^ n → n ≤ length out₀ - place → Kept (word_rows out₀ place n word)
  kept_rules h k l = (le-ltb 8 n h, (lt-leb (256 ^ n) word k, (le-ltb (length out₀ - place) n l, tt)))

  pub stored_left : (out : List ℕ) → n ≤ 8 → word < 256 ^ n → n ≤ length out₀ - place → out ≡ put out₀ place (digits 256 n word) → Written out₀ place n word (Complete n) out
  stored_left out h k l p =
      let e = decided_kept (word_rows out₀ place n word) (Complete (length (digits 256 n word))) (kept_rules h k l) in
      record { said = rw e (ap Complete (sym (length_digits 256 n word))); left = rw e p }

  -- a word that fits is written where there is room
  pub fitting_written : (answer : Verdict) (out : List ℕ) → n ≤ 8 → word < 256 ^ n → n ≤ length out₀ - place → Written out₀ place n word answer out → out ≡ put out₀ place (digits 256 n word)
  fitting_written answer out h k l w = w.left ∙ rw (decided_kept (word_rows out₀ place n word) (Complete (length (digits 256 n word))) (kept_rules h k l))
