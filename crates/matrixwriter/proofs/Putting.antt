-- Words and the bit vector put one after the other. Assumes nothing.
use Prim.Native.Nat.{ℕ, suc, ◌+◌, ◌-◌, ◌*◌, ◌^◌, ◌≤◌, ◌<◌, min}
use mathlib.Core.Path.{◌≡◌, sym, ap, ◌∙◌, subst}
use mathlib.Core.Bool.{true, false}
use mathlib.Core.List.{List, [], ◌∷◌, ◌++◌}
use native.Mathlib.Nat.{one-mul, zero-mul}
use native.Mathlib.Numerals.{add-one}
use native.Mathlib.Omega.{arith}
use Rattle.std.proofs.Common.{subst₂}
use Rattle.std.proofs.lemmas.List.{drop_more}
use borrow.Rule.Slice.PartMut.{put_mid, Post-is}
use lib.ListN.{length, take, drop, get_or, set, replicate, length-drop}
use lib.Seq.{length-take-le}
use Rattle.verdict.specs.declared.Verdict.{Verdict}
use Rattle.verdict.specs.Writing.{put}
use Rattle.verdict.proofs.Putting.{put_none, put_put, put_more, put_two, put_three, length_put}
use Rattle.word.specs.Digits.{digits, value_of}
use Rattle.word.specs.Many.{bytes_for, WrittenOver}
use Rattle.word.proofs.Digits.{length_digits}
use Rattle.word.proofs.Words.{length_bytes, left_written}
use Rattle.word.proofs.Gathered.{all_below_lem}
use Rattle.matrix.specs.declared.Fields.{Fields}
use Rattle.matrix.specs.Meaning.{sum}
use Rattle.matrix.specs.Spelling.{packed, spelled}
use Rattle.matrix.specs.Header.{control, control1, control2, header_of, header_bytes}
use Rattle.matrix.proofs.BitVector.{length_packed}
use Rattle.matrix.proofs.Decoding.{length_spelled, length_ones}
use Rattle.matrix.proofs.Header.{header_one, header_two, header_single, header_double}
use Rattle.matrixwriter.specs.Sending.{Sendable}
use Rattle.matrixwriter.proofs.Spelled.{spelled_none, all_spelled, full_spelled, packed_more, bits_from}

-- a word whose mark is 0 has no bytes
pub unsent_put : (out : List ℕ) (place size mark word : ℕ) → mark ≡ 0 → out ≡ put out place (digits 256 (mark * size) word)
unfolding digits
unsent_put out place size mark word e = rw (e, zero-mul size) (sym (put_none out place))

-- a word whose mark is 1 has its bytes
pub sent_room : (size mark : ℕ) → mark ≡ 1 → mark * size ≡ size
sent_room size mark e = rw (e, one-mul size)

pub sent_put : (out : List ℕ) (place size mark word : ℕ) (out' : List ℕ) → mark ≡ 1 → out' ≡ put out place (digits 256 size word) → out' ≡ put out place (digits 256 (mark * size) word)
sent_put out place size mark word out' e p = rw (sent_room size mark e) p

pub single_put : (f : Fields) (out : List ℕ) (a : ℕ) → f.mode1 ≡ true → a ≡ control f → header_bytes f ≤ length out → set (set out 0 f.n) 1 a ≡ put out 0 (header_of f)
single_put f out a one e h = rw (e, header_single f one) (put_two out 0 f.n (control f) (omega (arith, header_one f one)))

pub double_put : (f : Fields) (out : List ℕ) (a b : ℕ) → f.mode1 ≡ false → a ≡ control1 f → b ≡ control2 f → header_bytes f ≤ length out → set (set (set out 0 f.n) 1 a) 2 b ≡ put out 0 (header_of f)
double_put f out a b two e g h = rw (e, g, header_double f two) (put_three out 0 f.n (control1 f) (control2 f) (omega (arith, header_two f two)))

-- ---- one after the other

module _ (out₀ : List ℕ) (place : ℕ) where
  -- bytes behind those that are put
  pub behind : (p q : List ℕ) (k at : ℕ) (out out' : List ℕ) → length p ≡ k → place + k ≤ length out₀ → at ≡ place + k → out ≡ put out₀ place p → out' ≡ put out at q → out' ≡ put out₀ place (p ++ q)
  behind p q k at out out' l room a e f = f ∙ rw (e, a, ← l) (put_put out₀ place p q (omega arith))

  module _ (size : ℕ) (words : List ℕ) where
    -- words written over the bytes from the place on
    pub words_put : size ≤ 8 → place + length words * size ≤ length out₀ → ((i : ℕ) → i < length words → get_or words i 0 < 256 ^ size) → (answer : Verdict) (left : List ℕ)
        → WrittenOver (take (place + length words * size - place) (drop place out₀)) size words answer left
        → put_mid place (place + length words * size - place) out₀ left ≡ put out₀ place (spelled size (replicate (length words) 1) words)
    unfolding put
    words_put short room fits answer left w =
        let number = length words in
        let e : place + length words * size - place ≡ length words * size = omega arith in
        let part = take (place + length words * size - place) (drop place out₀) in
        let bytes : length (take (place + length words * size - place) (drop place out₀)) ≡ length words * size = rw e (length-take-le (length words * size) (drop place out₀) (rw length-drop (omega arith))) in
        let count : length (bytes_for size words) ≡ length words * size = length_bytes size words in
        let fit = all_below_lem (256 ^ size) words fits in
        let is = left_written size words (length part) (bytes_for size words) part answer left w short bytes fit (count ∙ sym bytes) in
        rw (is, Post-is {X = ℕ} place (place + number * size) out₀ (omega arith), ← all_spelled size words, count)

-- ---- words that are sent, of which these are ahead, at this place

pub record SentAhead (size : ℕ) (target out : List ℕ) (at : ℕ) (marks words : List ℕ) : Type 0 where
  pub sendable : Sendable size marks words
  pub as_many : length words ≡ length marks
  pub room : at + sum marks * size ≤ length out
  pub ahead : put out at (spelled size marks words) ≡ target

module _ (size : ℕ) (target out : List ℕ) (at mark word : ℕ) (marks words : List ℕ) (before : SentAhead size target out at (mark ∷ marks) (word ∷ words)) where
  -- the next one has room
  pub next_room : at + mark * size ≤ length out
  unfolding sum
  next_room = omega (arith, before.room)

  pub next_sendable : (size ≤ 8) × ((mark ≤ 1) × ((mark ≡ 1 → word < 256 ^ size) × (at + mark * size ≤ length out)))
  next_sendable = (before.sendable.short, (before.sendable.marked 0, (before.sendable.fitting 0, next_room)))

  -- and is put
  pub next_put : (out' : List ℕ) → out' ≡ put out at (digits 256 (mark * size) word) → SentAhead size target out' (at + mark * size) marks words
  unfolding sum spelled
  next_put out' e =
      let kept : length out' ≡ length out = ap length e ∙ length_put out at (digits 256 (mark * size) word) (omega (arith, next_room, length_digits 256 (mark * size) word)) in
      record {
        sendable = record { short = before.sendable.short; marked = λ i. before.sendable.marked (suc i); fitting = λ i. before.sendable.fitting (suc i) };
        as_many = omega (arith, before.as_many);
        room = omega (arith, kept, before.room);
        ahead =
            rw e
            (subst (λ (k : ℕ). put (put out at (digits 256 (mark * size) word)) (at + k) (spelled size marks words) ≡ target) (length_digits 256 (mark * size) word)
            (put_put out at (digits 256 (mark * size) word) (spelled size marks words) (omega (arith, next_room, length_digits 256 (mark * size) word)) ∙ before.ahead));
      }

-- the one at a place, and those behind it
pub sent_here : (size : ℕ) (target out : List ℕ) (at : ℕ) (marks words : List ℕ) (i : ℕ) → length words ≡ length marks → i < length marks
    → SentAhead size target out at (drop i marks) (drop i words) → SentAhead size target out at (get_or marks i 0 ∷ drop (i + 1) marks) (get_or words i 0 ∷ drop (i + 1) words)
sent_here size target out at marks words i l h = subst₂ (SentAhead size target out at) (drop_more marks i 0 h) (drop_more words i 0 (omega arith))

-- and the last one was put
pub all_put : (size : ℕ) (target out : List ℕ) (at : ℕ) (marks words : List ℕ) → SentAhead size target out at marks words → length marks ≡ 0 → out ≡ target
unfolding spelled
all_put size target out at [] words before e = sym (put_none out at) ∙ before.ahead
all_put size target out at (mark ∷ marks) words before e = absurd (omega arith)

-- of a full matrix all words are sent, or have no bytes
module _ (size : ℕ) (marks words : List ℕ) (all : (i : ℕ) → i < length marks → get_or marks i 0 ≡ min 1 size) where
  -- without bytes there is nothing to put
  pub full_none : (out : List ℕ) (place : ℕ) → size ≡ 0 → out ≡ put out place (spelled size marks words)
  full_none out place e =
      let none : spelled size marks words ≡ [] = rw e (spelled_none marks words) in
      rw none (sym (put_none out place))

  module _ (as_many : length words ≡ length marks) where
    full_bytes : spelled size marks words ≡ spelled size (replicate (length words) 1) words
    full_bytes = full_spelled size marks words all ∙ ap (λ (k : ℕ). spelled size (replicate k 1) words) (sym as_many)

    pub full_room : sum marks * size ≡ length words * size
    full_room = sym (length_spelled size marks words) ∙ ap length full_bytes ∙ length_ones size (length words) words

    -- with bytes they fit
    pub full_fits : Sendable size marks words → (size ≡ 0 → ⊥) → (i : ℕ) → i < length words → get_or words i 0 < 256 ^ size
    full_fits s some i h = s.fitting i (all i (omega arith) ∙ omega arith)

    pub full_put : (out out' : List ℕ) (place : ℕ) → out' ≡ put out place (spelled size (replicate (length words) 1) words) → out' ≡ put out place (spelled size marks words)
    full_put out out' place e = rw full_bytes e

-- ---- the bit vector

module _ (out₀ : List ℕ) (place : ℕ) (marks : List ℕ) where
  pub vector_put_next : (i x : ℕ) (out : List ℕ) → place + i < length out₀ → x ≡ value_of 2 (take 8 (bits_from marks (8 * i))) → out ≡ put out₀ place (packed i marks) → set out (place + i) x ≡ put out₀ place (packed (i + 1) marks)
  vector_put_next i x out room b e =
      let l = length_packed i marks in
      rw (e, b, add-one, packed_more i marks) (subst (λ (k : ℕ). set (put out₀ place (packed i marks)) (place + k) (value_of 2 (take 8 (bits_from marks (8 * i)))) ≡ put out₀ place (packed i marks ++ (value_of 2 (take 8 (bits_from marks (8 * i))) ∷ []))) l
      (put_more out₀ place (packed i marks) (value_of 2 (take 8 (bits_from marks (8 * i)))) (omega arith)))
