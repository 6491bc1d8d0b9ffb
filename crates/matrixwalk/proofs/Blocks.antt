-- The first bytes of words below a limit: words one after another, and blocks of them by the greatest byte of each place. Assumes nothing.
use Prim.Native.Nat.{ℕ, zero, suc, ◌+◌, ◌-◌, ◌*◌, ◌/◌, ◌%◌, ◌≤◌, ◌<◌}
use mathlib.Core.Path.{◌≡◌, ap, ◌∙◌, sym}
use mathlib.Core.List.{List, ◌++◌}
use native.Mathlib.Nat.{zero-mul, suc-mul, add-mul, mul_assoc, mul_comm, mul-sub, mul-le-mul_right, mul-lt-mul_of_pos_right, lt_of_mul-lt-mul_right, div-add-mod', mod-lt}
use native.Mathlib.Omega.{arith}
use borrow.Author.Tests.{ltb-true, ltb-false, eqb-true, eqb-false}
use lib.Bits.{bit_and}
use lib.Dec.{eqb, ltb}
use lib.ListN.{length, take, drop, get_or, set, length-set, length-append, length-drop, get_or-append}
use lib.Seq.{length-take-le, get_or-take, get_or-drop, get_or-set_same, get_or-set_other}
use Rattle.verdict.proofs.Cases.{either}
use Rattle.matrixwalk.specs.Parts.{FirstsBelow, TwosUnder, Raised, BlocksUnder}

-- ---- words one after another

module _ (bytes : List ℕ) (until n limit : ℕ) where
  module _ (at : ℕ) where
    first : at + 0 * n ≡ at
    first = omega (arith, zero-mul n)

    next : (k : ℕ) → at + suc k * n ≡ at + n + k * n
    next k = omega (arith, suc-mul k n)

    -- the first of some words, and those behind it
    pub firsts_more : get_or bytes at 0 < limit → FirstsBelow bytes (at + n) until n limit → FirstsBelow bytes at until n limit
    firsts_more h f zero l = rw first h
    firsts_more h f (suc k) l = rw (next k) (f k (omega (arith, next k)))

    pub firsts_first : at < until → FirstsBelow bytes at until n limit → get_or bytes at 0 < limit
    firsts_first l f = rw first at (f 0 (omega (arith, first)))

    pub firsts_behind : FirstsBelow bytes at until n limit → FirstsBelow bytes (at + n) until n limit
    firsts_behind f k l = rw (next k) at (f (suc k) (omega (arith, next k)))

  -- so many words, and those behind them
  pub firsts_join : (place words middle : ℕ) → middle ≡ place + words * n → FirstsBelow bytes place middle n limit → FirstsBelow bytes middle until n limit → FirstsBelow bytes place until n limit
  firsts_join place words middle is f g k l =
      either (ltb (place + k * n) middle)
      (λ t. f k (ltb-true (place + k * n) middle t))
      (λ t.
      let e : place + k * n ≡ middle + (k - words) * n =
      omega (arith, ltb-false (place + k * n) middle t, mul-sub n k words, mul_comm n (k - words), mul_comm n k, mul_comm n words) in
      rw e (g (k - words) (omega arith)))

-- the same of the first two bytes
module _ (bytes : List ℕ) (until n mask most : ℕ) (at : ℕ) where
  abbrev two : ℕ → ℕ
  two i = bit_and (get_or bytes i 0 * 256 + get_or bytes (i + 1) 0) mask

  pub twos_more : at + 1 < until → two at ≤ most → TwosUnder bytes (at + n) until n mask most → TwosUnder bytes at until n mask most
  twos_more h l f zero i = rw (first bytes until n mask at) (h, l)
  twos_more h l f (suc k) i = rw (next bytes until n mask at k) (f k (omega (arith, next bytes until n mask at k)))

  pub twos_first : at < until → TwosUnder bytes at until n mask most → (at + 1 < until) × (two at ≤ most)
  twos_first l f = rw (first bytes until n mask at) at (f 0 (omega (arith, first bytes until n mask at)))

  pub twos_behind : TwosUnder bytes at until n mask most → TwosUnder bytes (at + n) until n mask most
  twos_behind f k l = rw (next bytes until n mask at k) at (f (suc k) (omega (arith, next bytes until n mask at k)))

-- words of a part of the bytes are words of the bytes
module _ (bytes : List ℕ) (place until n : ℕ) (within : until ≤ length bytes) where
  abbrev part : List ℕ
  part = take (until - place) (drop place bytes)

  part_length : length part ≡ until - place
  part_length = length-take-le (until - place) (drop place bytes) (rw length-drop (omega arith))

  part_at : (i j : ℕ) → i < until - place → j ≡ place + i → get_or part i 0 ≡ get_or bytes j 0
  part_at i j h e = rw e (get_or-take (until - place) (drop place bytes) i 0 h ∙ get_or-drop place bytes i 0)

  pub firsts_part : (limit : ℕ) → FirstsBelow part 0 (length part) n limit → FirstsBelow bytes place until n limit
  firsts_part limit f k l = rw (part_at (0 + k * n) (place + k * n) (omega arith) (omega arith)) at (f k (omega (arith, part_length)))

  pub twos_part : (mask most : ℕ) → TwosUnder part 0 (length part) n mask most → TwosUnder bytes place until n mask most
  twos_part mask most f k l =
      let t = f k (omega (arith, part_length)) in
      let h : place + k * n + 1 < until = omega (arith, part_length, t.0) in
      (h, rw (part_at (0 + k * n) (place + k * n) (omega arith) (omega arith), part_at (0 + k * n + 1) (place + k * n + 1) (omega arith) (omega arith)) at t.1)

-- ---- the greatest byte of each place

-- where an entry is raised, none is less than it was
set_raised : (most : List ℕ) (i value : ℕ) → i < length most → get_or most i 0 ≤ value → (j : ℕ) → get_or most j 0 ≤ get_or (set most i value) j 0
set_raised most i value h l j =
    either (eqb j i) (λ t. rw (eqb-true j i t, get_or-set_same most i value 0 h) l)
    (λ t. rw (get_or-set_other most i j value 0 (eqb-false j i t)) (omega arith))

-- the first `i` entries are raised
pub record RaisedFirst (bytes : List ℕ) (at i : ℕ) (most₀ most : List ℕ) : Type 0 where
  pub same_length : length most ≡ length most₀
  pub kept : (j : ℕ) → get_or most₀ j 0 ≤ get_or most j 0
  pub above : (j : ℕ) → j < i → get_or bytes (at + j) 0 ≤ get_or most j 0

module _ (bytes : List ℕ) (at : ℕ) (most₀ : List ℕ) where
  pub raised_none : RaisedFirst bytes at 0 most₀ most₀
  raised_none = record { same_length = omega arith; kept = λ j. omega arith; above = λ j h. absurd (omega arith) }

  module _ (i : ℕ) (most : List ℕ) (r : RaisedFirst bytes at i most₀ most) where
    pub raised_more : (value : ℕ) → i < length most → get_or most i 0 ≤ value → get_or bytes (at + i) 0 ≤ value → RaisedFirst bytes at (i + 1) most₀ (set most i value)
    raised_more value h l b =
        record {
          same_length = length-set most i value ∙ r.same_length;
          kept = λ j. omega (arith, r.kept j, set_raised most i value h l j);
          above = λ j m. either (eqb j i) (λ t. rw (eqb-true j i t, get_or-set_same most i value 0 h) b)
              (λ t. omega (arith, r.above j (omega (arith, eqb-false j i t)), set_raised most i value h l j));
        }

    pub raised_all : length most ≤ i → Raised bytes at most₀ most
    raised_all h = record { same_length = r.same_length; kept = r.kept; above = λ j m. r.above j (omega (arith, r.same_length)) }

-- ---- blocks

-- no byte of so many blocks is above the entry for its place
pub record Covers (bytes : List ℕ) (size blocks : ℕ) (most : List ℕ) : Type 0 where
  pub room : size ≤ length most
  pub under : BlocksUnder bytes blocks size most

module _ (bytes : List ℕ) where
  module _ (size : ℕ) where
    pub covers_none : (most : List ℕ) → size ≤ length most → Covers bytes size 0 most
    covers_none most h = record { room = h; under = λ b i l. absurd (omega arith) }

    -- where more are to come, the next is there
    pub covers_next : (blocks all : ℕ) → blocks < all → all * size ≤ length bytes → blocks * size + size ≤ length bytes
    covers_next blocks all h l = omega (arith, suc-mul blocks size, mul-le-mul_right size h)

    module _ (blocks : ℕ) (most : List ℕ) (c : Covers bytes size blocks most) where
      -- and then the entries are raised by it
      pub covers_more : (part : List ℕ) → Raised bytes (blocks * size) (take size most) part → Covers bytes size (blocks + 1) (part ++ drop size most)
      covers_more part r =
          let k : length part ≡ size = r.same_length ∙ length-take-le size most c.room in
          record {
            room = rw length-append (omega arith);
            under = λ b i h l. rw (get_or-append part (drop size most) 0 i (omega arith))
                (either (eqb b blocks) (λ t. rw (eqb-true b blocks t) (r.above i (omega (arith, r.same_length))))
                (λ t. omega (arith, c.under b i (omega (arith, eqb-false b blocks t)) l, get_or-take size most i 0 l, r.kept i)));
          }

  -- where the greatest bytes of the places at which words begin are below a limit, each word of the blocks begins below it
  pub under_firsts : (blocks n limit : ℕ) (most : List ℕ) → 1 ≤ n → 16 * n ≤ length most → BlocksUnder bytes blocks (16 * n) most → FirstsBelow (take (16 * n) most) 0 (length (take (16 * n) most)) n limit → FirstsBelow bytes 0 (blocks * (16 * n)) n limit
  under_firsts blocks n limit most some room u f k l =
      let b = k / 16 in
      let r = k % 16 in
      let e : k * n ≡ b * (16 * n) + r * n = ap (λ (j : ℕ). j * n) (sym (div-add-mod' k 16)) ∙ add-mul (b * 16) r n ∙ ap (λ (j : ℕ). j + r * n) (mul_assoc b 16 n) in
      let whole : b < blocks = lt_of_mul-lt-mul_right (16 * n) (omega (arith, e)) in
      let inside : r * n < 16 * n = mul-lt-mul_of_pos_right {m = r} {n = 16} {k = n} (mod-lt k (omega arith)) some in
      let g : 0 + k * n ≡ b * (16 * n) + r * n = omega (arith, e) in
      let z : 0 + r * n ≡ r * n = omega arith in
      rw g (omega (arith, u b (r * n) whole inside, get_or-take (16 * n) most (r * n) 0 inside, rw z at (f r (omega (arith, length-take-le (16 * n) most room)))))
