-- Words of a rule, byte by byte: where a word has come to, what settles it, and words one after another. Assumes nothing.
use Prim.Native.Nat.{ℕ, zero, suc, ◌+◌, ◌-◌, ◌*◌, ◌/◌, ◌%◌, ◌^◌, ◌≤◌, ◌<◌, min}
use mathlib.Core.Path.{◌≡◌, refl, sym, ap, ◌∙◌, subst}
use mathlib.Core.List.{List, ◌∷◌}
use mathlib.Core.Logic.{⊎_elim}
use native.Mathlib.Nat.{add-sub_cancel, suc-mul, zero-mul, mul-zero, mod-eq_of_lt, zero-div, pow-suc, one-le-pow, le-div_iff_mul-le, div-add-mod'}
use native.Mathlib.Omega.{arith}
use borrow.Author.Tests.{lt-ltb, le-ltb, eq-eqb, ne_eqb, leb-true, leb-false, ltb-true, ltb-false}
use lib.Bits.{bit_and, and_mask}
use lib.Dec.{eqb, leb, ltb}
use lib.ListN.{length, get_or}
use lib.Pow.{high, low, field, mod-mod-pow, ones_split, ones_lt, shr-shr}
use Rattle.verdict.specs.Rows.{judged}
use Rattle.verdict.specs.declared.Verdict.TheVariants.{Unfinished}
use Rattle.verdict.specs.declared.Verdict.{Verdict}
use Rattle.verdict.specs.declared.Reason.TheVariants.{ValueRange}
use Rattle.verdict.proofs.Cases.{by_test, either}
use Rattle.verdict.specs.Machine.{Move}
use Rattle.verdict.specs.Reaching.{led}
use Rattle.verdict.proofs.Reaching.{reach_cut, reach_step}
use Rattle.rule.specs.declared.rules.Rule.{Rule}
use Rattle.rule.specs.Rules.{Keeps, cleared}
use Rattle.rule.specs.Sound.{Sound}
use Rattle.rule.proofs.Certain.{sign_whole, cleared_first}
use Rattle.word.specs.Bytes.{word_at}
use Rattle.word.proofs.Digits.{Below, bytes_bits, word_below, word_front}
use Rattle.matrix.specs.Machine.{State, word, Run, enter, enter_word, in_word, rest_of, run_bytes, step, least}
use Rattle.matrix.specs.Reached.{verdict_at, verdict_behind}
use Rattle.std.specs.Prelude.{Err}
use Rattle.verdict.specs.declared.Stop.TheVariants.{Unfinished as StopUnfinished, Refused as StopRefused}
use Rattle.matrixwalk.specs.Parts.{mask_of, over_at, word_of, run_of, LookedAt, Judges, Checks, FirstsBelow, TwosUnder, PassedTo, PassedFrom}
use Rattle.matrixwalk.proofs.Blocks.{firsts_first, firsts_behind, twos_first, twos_behind}
use Rattle.matrix.proofs.Fronts.{cleared_none, run_empty}
use Rattle.matrix.proofs.Keeping.{first_sign}

-- ---- one byte of a word

module _ (bytes : List ℕ) (place : ℕ) (more sign top x : ℕ) (run : Run) (runs : List Run) (is : cleared sign (get_or bytes place 0) ≡ x) (there : place < length bytes) where
  byte_over : top / 256 ^ more < x → verdict_at (word more sign top run runs) bytes place ≡ over_at place
  unfolding judged led
  byte_over h = reach_step step least bytes (word more sign top run runs) place there ∙ rw (is, lt-ltb (top / 256 ^ more) x h, add-sub_cancel)

  byte_within : x ≤ top / 256 ^ more → verdict_at (word more sign top run runs) bytes place ≡ verdict_behind (in_word more (rest_of more top x) run runs) bytes (place + 1)
  unfolding judged
  byte_within h = reach_step step least bytes (word more sign top run runs) place there ∙ rw (is, le-ltb (top / 256 ^ more) x h)

word_cut : (bytes : List ℕ) (place more sign top : ℕ) (run : Run) (runs : List Run) → length bytes ≤ place → verdict_at (word more sign top run runs) bytes place ≡ Unfinished (suc more + run_bytes (run ∷ runs))
unfolding run_bytes
word_cut bytes place more sign top run runs h = reach_cut step least bytes (word more sign top run runs) place h

-- ---- the bytes of a limit

bytes_more : (more : ℕ) → 256 ^ suc more ≡ 2 ^ (8 + 8 * more)
bytes_more more = bytes_bits (suc more) ∙ ap (λ (n : ℕ). 2 ^ n) (omega arith)

module _ (word more : ℕ) where
  rest_byte : word % 256 ^ suc more / 256 ^ more ≡ word / 256 ^ more % 256
  rest_byte = rw (bytes_more more, bytes_bits more) (field word 8 (8 * more))

  rest_rest : word % 256 ^ suc more % 256 ^ more ≡ word % 256 ^ more
  rest_rest = rw (bytes_more more, bytes_bits more) (mod-mod-pow word 8 (8 * more))

  next_byte : word / 256 ^ suc more ≡ word / 256 ^ more / 256
  next_byte = rw (bytes_more more, bytes_bits more) (ap (λ (k : ℕ). word / 2 ^ k) (omega arith) ∙ sym (shr-shr word (8 * more) 8))

-- a limit that lets everything pass lets every byte pass, and everything behind it
free_byte : (more : ℕ) → (256 ^ suc more - 1) / 256 ^ more ≡ 255
free_byte more = rw (bytes_more more, bytes_bits more, ones_split 8 (8 * more)) (high 255 (8 * more) (ones_lt (8 * more)))

free_rest : (more b : ℕ) → rest_of more (256 ^ suc more - 1) b ≡ 256 ^ more - 1
free_rest more b =
    by_test (λ (n : ℕ). n ≡ 256 ^ more - 1) (ltb b ((256 ^ suc more - 1) / 256 ^ more)) (256 ^ more - 1) ((256 ^ suc more - 1) % 256 ^ more) (λ t. refl)
    (λ t. rw (bytes_more more, bytes_bits more, ones_split 8 (8 * more)) (low 255 (8 * more) (ones_lt (8 * more))))

-- behind a byte, the rest of a word that is at most its limit is at most what it may be
rest_most : (more top b rest : ℕ) → rest < 256 ^ more → b * 256 ^ more + rest ≤ top → rest ≤ rest_of more top b
rest_most more top b rest small most =
    by_test (λ (n : ℕ). rest ≤ n) (ltb b (top / 256 ^ more)) (256 ^ more - 1) (top % 256 ^ more) (λ t. omega arith)
    (λ t. let p : 0 < 256 ^ more = one-le-pow more 256 (omega arith) in
    let e : b ≡ top / 256 ^ more = omega (arith, ltb-false b (top / 256 ^ more) t, (le-div_iff_mul-le {k = 256 ^ more} {x = b} {y = top} p).1 (omega arith)) in
    omega (arith, ap (λ (k : ℕ). k * 256 ^ more) e, div-add-mod' top (256 ^ more)))

-- ---- the first byte of a word

-- the first byte's share of a rule's sign, and of its greatest word
abbrev pub sign_first : Rule → ℕ
sign_first rule = rule.sign / 256 ^ (rule.length - 1)

abbrev pub limit_first : Rule → ℕ
limit_first rule = rule.greatest / 256 ^ (rule.length - 1)

module _ (rule : Rule) (sound : Sound rule) (some : 1 ≤ rule.length) where
  -- the limit's first byte is all that stands before the others
  pub first_limit : limit_first rule % 256 ≡ limit_first rule
  first_limit =
      let n : rule.length ≡ suc (rule.length - 1) = omega arith in
      sym (rest_byte rule.greatest (rule.length - 1)) ∙ ap (λ (k : ℕ). k / 256 ^ (rule.length - 1)) (mod-eq_of_lt (rw n at sound.room))

  -- to clear the sign is to mask it
  pub masked : (b x mask : ℕ) → x ≡ b → x < 256 → mask ≡ mask_of rule → cleared (sign_first rule) b ≡ bit_and x mask
  masked b x mask e h m =
      let p = 256 ^ (rule.length - 1) in
      let w : rule.sign ≡ sign_first rule * p = sign_whole rule sound (rule.length - 1) (omega arith) in
      rw (m, ← e)
      (⊎_elim
      (λ z. rw (z, eq-eqb rule.sign 0 (w ∙ rw z (zero-mul p))) (cleared_none 1 x ∙ sym (and_mask x 8 ∙ mod-eq_of_lt h)))
      (λ z. rw (z.0, ne_eqb rule.sign 0 (λ n. omega (arith, z.1, ap (λ (k : ℕ). k * p) z.0)), and_mask x 7)
      (by_test (λ (n : ℕ). n ≡ x % 128) (leb 128 x) (x - 128) x (λ t. omega (arith, leb-true 128 x t)) (λ t. omega (arith, leb-false 128 x t))))
      (first_sign rule (rule.length - 1) sound (omega arith)))

  -- where there is none, all of the first byte counts
  unsigned : rule.sign ≡ 0 → (b : ℕ) → cleared (sign_first rule) b ≡ b
  unsigned plain b = rw (plain, zero-div (256 ^ (rule.length - 1))) (cleared_none 1 b)

-- a word of two bytes or more: its first two
module _ (rule : Rule) (sound : Sound rule) (two : 2 ≤ rule.length) where
  abbrev rest : ℕ
  rest = 256 ^ (rule.length - 2)

  whole : 256 ^ rule.length ≡ 65536 * rest
  whole = let n : rule.length ≡ suc (suc (rule.length - 2)) = omega arith in
      ap (λ (k : ℕ). 256 ^ k) n ∙ pow-suc 256 (suc (rule.length - 2)) ∙ omega (arith, pow-suc 256 (rule.length - 2))

  pub two_room : rule.greatest < 65536 * rest
  two_room = omega (arith, sound.room, whole)

  pub sign_room : rule.sign - 1 < 65536 * rest
  sign_room = let p = one-le-pow (rule.length - 2) 256 (omega arith) in ⊎_elim (λ z. omega arith) (λ h. omega (arith, h.0, whole)) sound.signed

  -- what stands below a sign is the mask
  pub below_sign : 1 ≤ rule.sign → (rule.sign - 1) / rest ≡ mask_of rule * 256 + 255
  below_sign some =
      let k = 8 * (rule.length - 2) in
      let p : rest ≡ 2 ^ k = bytes_bits (rule.length - 2) in
      let h : rule.sign * 2 ≡ 65536 * rest = ⊎_elim (λ z. absurd (omega arith)) (λ h. h.0 ∙ whole) sound.signed in
      let e : rule.sign - 1 ≡ 32767 * 2 ^ k + (2 ^ k - 1) = omega arith in
      rw (p, e, ne_eqb rule.sign 0 (λ z. omega arith)) (high 32767 k (ones_lt k))

-- two bytes are masked each by itself
and_two : (rule : Rule) (b c : ℕ) → c < 256 → bit_and (b * 256 + c) (mask_of rule * 256 + 255) ≡ bit_and b (mask_of rule) * 256 + c
and_two rule b c h =
    by_test (λ (m : ℕ). bit_and (b * 256 + c) (m * 256 + 255) ≡ bit_and b m * 256 + c) (eqb rule.sign 0) 255 127
    (λ t. rw (and_mask (b * 256 + c) 16, and_mask b 8) (omega arith)) (λ t. rw (and_mask (b * 256 + c) 15, and_mask b 7) (omega arith))

-- ---- where a word has come to

-- a word that begins at a place has come to another, with `left` bytes still to come, which may be at most `top`
pub record Comes (bytes : List ℕ) (place : ℕ) (rule : Rule) (at left top : ℕ) : Type 0 where
  pub same : at + left ≡ place + rule.length
  pub leads : (run : Run) (runs : List Run) → verdict_at (word_of rule run runs) bytes place ≡ verdict_behind (in_word left top run runs) bytes at

-- the same where its bytes so far are its limit's
abbrev pub Tight : List ℕ → ℕ → Rule → ℕ → Type 0
Tight bytes place rule at = Comes bytes place rule at (place + rule.length - at) (rule.greatest % 256 ^ (place + rule.length - at))

module _ (bytes : List ℕ) (place until : ℕ) (rule : Rule) (fast : LookedAt bytes place until rule) where
  judges_over : (at : ℕ) → at < until → ((run : Run) (runs : List Run) → verdict_at (word_of rule run runs) bytes place ≡ over_at at) → Judges bytes place until rule at
  judges_over at h f = record { within = omega arith; over = λ l. f; whole = λ l. absurd (omega arith); cut = λ l. absurd (omega arith) }

  -- at its end, or at the end of what is looked at, nothing has broken the rule
  comes_end : (at left top : ℕ) → Comes bytes place rule at left top → at ≡ min (place + rule.length) until → Judges bytes place until rule until
  unfolding led
  comes_end at zero top k e =
      record {
        within = omega arith;
        over = λ l. absurd (omega arith);
        whole = λ l h run runs. let p : at ≡ place + rule.length = omega arith in k.leads run runs ∙ rw p;
        cut = λ l h. absurd (omega arith);
      }
  comes_end at (suc left) top k e =
      record {
        within = omega arith;
        over = λ l. absurd (omega arith);
        whole = λ l h. absurd (omega arith);
        cut = λ l h z run runs. k.leads run runs ∙ word_cut bytes at left 0 top run runs (omega arith) ∙ ap (λ (n : ℕ). Unfinished (n + run_bytes (run ∷ runs))) (omega arith);
      }

  -- one byte on, unless that is above the limit's
  module _ (at left top : ℕ) (comes : Comes bytes place rule at (suc left) top) (within : at < until) where
    comes_over : top / 256 ^ left < get_or bytes at 0 → Judges bytes place until rule at
    unfolding led
    comes_over h = judges_over at within (λ run runs. comes.leads run runs ∙ byte_over bytes at left 0 top (get_or bytes at 0) run runs (cleared_none 1 (get_or bytes at 0)) (omega arith) h)

    comes_within : get_or bytes at 0 ≤ top / 256 ^ left → Comes bytes place rule (at + 1) left (rest_of left top (get_or bytes at 0))
    unfolding led
    comes_within h =
        record {
          same = omega arith;
          leads = λ run runs. comes.leads run runs ∙ byte_within bytes at left 0 top (get_or bytes at 0) run runs (cleared_none 1 (get_or bytes at 0)) (omega arith) h;
        }

  -- where the rest of the word may be anything, nothing will break the rule
  comes_free : Below 256 bytes → (at left : ℕ) → Comes bytes place rule at left (256 ^ left - 1) → at ≤ until → Judges bytes place until rule until
  comes_free below at zero k h = comes_end at zero (256 ^ 0 - 1) k (omega arith)
  comes_free below at (suc left) k h =
      either (ltb at until)
      (λ t. let l = ltb-true at until t in
      comes_free below (at + 1) left
      (subst (Comes bytes place rule (at + 1) left) (free_rest left (get_or bytes at 0)) (comes_within at left (256 ^ suc left - 1) k l (omega (arith, free_byte left, below at))))
      (omega arith))
      (λ t. comes_end at (suc left) (256 ^ suc left - 1) k (omega (arith, ltb-false at until t)))

  -- nor where the rest of the word is at most what it may be
  comes_most : Below 256 bytes → (at left top : ℕ) → Comes bytes place rule at left top → at + left ≤ until → word_at bytes at left ≤ top → Judges bytes place until rule until
  comes_most below at zero top k h l = comes_end at zero top k (omega (arith, k.same))
  comes_most below at (suc left) top k h l =
      let b = get_or bytes at 0 in
      let p : 0 < 256 ^ left = one-le-pow left 256 (omega arith) in
      let s : word_at bytes at (suc left) ≡ b * 256 ^ left + word_at bytes (at + 1) left = word_front bytes at left (omega arith) in
      let most : b ≤ top / 256 ^ left = (le-div_iff_mul-le {k = 256 ^ left} {x = b} {y = top} p).1 (omega (arith, s)) in
      comes_most below (at + 1) left (rest_of left top b) (comes_within at left top k (omega arith) most) (omega arith)
      (rest_most left top b (word_at bytes (at + 1) left) (word_below bytes (at + 1) left below) (omega (arith, s)))

  -- by the first byte, of which x counts
  module _ (x : ℕ) (counts : cleared (sign_first rule) (get_or bytes place 0) ≡ x) where
    pub first_over : limit_first rule < x → Judges bytes place until rule place
    first_over h = judges_over place (omega arith) (λ run runs. byte_over bytes place (rule.length - 1) (sign_first rule) rule.greatest x run runs counts (omega arith) h)

    first_within : x ≤ limit_first rule → Comes bytes place rule (place + 1) (rule.length - 1) (rest_of (rule.length - 1) rule.greatest x)
    first_within h =
        record {
          same = omega arith;
          leads = λ run runs. byte_within bytes place (rule.length - 1) (sign_first rule) rule.greatest x run runs counts (omega arith) h;
        }

    pub first_below : Below 256 bytes → x < limit_first rule → Judges bytes place until rule until
    first_below below h = comes_free below (place + 1) (rule.length - 1) (rw (lt-ltb x (limit_first rule) h) at (first_within (omega arith))) (omega arith)

  -- so a whole word that keeps its rule breaks it nowhere
  pub whole_keeps : Sound rule → Below 256 bytes → place + rule.length ≤ until → Keeps rule (word_at bytes place rule.length) → Judges bytes place until rule until
  whole_keeps sound below there keeps =
      let n = rule.length - 1 in
      let b = get_or bytes place 0 in
      let x = cleared (sign_first rule) b in
      let rest = word_at bytes (place + 1) n in
      let small : rest < 256 ^ n = word_below bytes (place + 1) n below in
      let e : rule.length ≡ suc n = omega (arith, fast.some) in
      let s : cleared rule.sign (word_at bytes place rule.length) ≡ x * 256 ^ n + rest =
      ap (λ (k : ℕ). cleared rule.sign (word_at bytes place k)) e ∙ ap (cleared rule.sign) (word_front bytes place n (omega (arith, fast.within))) ∙ cleared_first rule sound n b rest (omega (arith, fast.some)) small in
      let most : x ≤ limit_first rule = (le-div_iff_mul-le {k = 256 ^ n} {x = x} {y = rule.greatest} (one-le-pow n 256 (omega arith))).1 (omega (arith, s, keeps)) in
      comes_most below (place + 1) n (rest_of n rule.greatest x) (first_within x refl most) (omega arith) (rest_most n rule.greatest x rest small (omega (arith, s, keeps)))

  pub tight_start : cleared (sign_first rule) (get_or bytes place 0) ≡ limit_first rule → Tight bytes place rule (place + 1)
  tight_start e =
      let x = limit_first rule in
      let n : place + rule.length - (place + 1) ≡ rule.length - 1 = omega arith in
      rw n (rw (le-ltb x x (omega arith)) at (first_within x e (omega arith)))

  pub tight_end : (at : ℕ) → at ≡ min (place + rule.length) until → Tight bytes place rule at → Judges bytes place until rule until
  tight_end at e k = comes_end at (place + rule.length - at) (rule.greatest % 256 ^ (place + rule.length - at)) k e

  -- and by a later one, whose limit the code has
  module _ (at limit b : ℕ) (within : at < min (place + rule.length) until) (tight : Tight bytes place rule at) (is_limit : limit ≡ rule.greatest / 256 ^ (place + rule.length - 1 - at) % 256) (is_byte_lem : b ≡ get_or bytes at 0) where
    abbrev more : ℕ
    more = place + rule.length - 1 - at

    abbrev top : ℕ
    top = rule.greatest % 256 ^ suc more

    comes : Comes bytes place rule at (suc more) top
    comes = let n : place + rule.length - at ≡ suc more = omega arith in rw n at tight

    top_byte : top / 256 ^ more ≡ limit
    top_byte = rest_byte rule.greatest more ∙ sym is_limit

    next : b ≤ limit → Comes bytes place rule (at + 1) more (rest_of more top (get_or bytes at 0))
    next h = comes_within at more top comes (omega arith) (omega (arith, top_byte))

    pub tight_over : limit < b → Judges bytes place until rule at
    tight_over h = comes_over at more top comes (omega arith) (omega (arith, top_byte))

    pub tight_below : Below 256 bytes → b < limit → Judges bytes place until rule until
    tight_below below h = comes_free below (at + 1) more (rw (lt-ltb (get_or bytes at 0) (top / 256 ^ more) (omega (arith, top_byte))) at (next (omega arith))) (omega arith)

    pub tight_equal : limit ≤ b → b ≤ limit → Tight bytes place rule (at + 1)
    tight_equal g h =
        let n : place + rule.length - (at + 1) ≡ more = omega arith in
        rw (n, ← rest_rest rule.greatest more) (rw (le-ltb (get_or bytes at 0) (top / 256 ^ more) (omega (arith, top_byte))) at (next h))

  -- by the first two bytes
  module _ (two : 2 ≤ rule.length) (next : place + 1 < until) (below : Below 256 bytes) where
    abbrev b₀ : ℕ
    b₀ = get_or bytes place 0

    abbrev b₁ : ℕ
    b₁ = get_or bytes (place + 1) 0

    pub two_below : Sound rule → (x : ℕ) → x ≡ bit_and (b₀ * 256 + b₁) (mask_of rule * 256 + 255) → x < rule.greatest / 256 ^ (rule.length - 2) → Judges bytes place until rule until
    two_below sound x e h =
        let g = rule.greatest / 256 ^ (rule.length - 2) in
        let x₀ = bit_and b₀ (mask_of rule) in
        let counts : cleared (sign_first rule) b₀ ≡ x₀ = masked rule sound fast.some b₀ b₀ (mask_of rule) refl (below place) refl in
        let first : limit_first rule ≡ g / 256 = let n : rule.length - 1 ≡ suc (rule.length - 2) = omega arith in rw n (next_byte rule.greatest (rule.length - 2)) in
        let both : x ≡ x₀ * 256 + b₁ = e ∙ and_two rule b₀ b₁ (below (place + 1)) in
        either (ltb x₀ (limit_first rule)) (λ t. first_below x₀ counts below (ltb-true x₀ (limit_first rule) t))
        (λ t. let q : x₀ ≡ limit_first rule = omega (arith, ltb-false x₀ (limit_first rule) t) in
        let n : place + rule.length - 1 - (place + 1) ≡ rule.length - 2 = omega arith in
        tight_below (place + 1) (g % 256) b₁ (omega arith) (tight_start (counts ∙ q)) (rw n refl) refl below (omega arith))

-- ---- words one after another

-- what breaks the rule from a place on is what breaks it from the start, and past `until` nothing does
abbrev pub Carries : List ℕ → ℕ → ℕ → Rule → ℕ → Type 0
Carries bytes place until rule at = (at ≤ until → (broken : ℕ) → Checks bytes at until rule broken → Checks bytes place until rule broken) × (until < at → Checks bytes place until rule until)

pub carries_start : (bytes : List ℕ) (place until : ℕ) (rule : Rule) → place ≤ until → Carries bytes place until rule place
carries_start bytes place until rule h = (λ k broken c. c, λ k. absurd (omega arith))

module _ (rule : Rule) (some : 1 ≤ rule.length) where
  -- into the first of some words
  enter_some : (bytes : List ℕ) (place count : ℕ) (runs : List Run) → verdict_behind (enter (run_of rule (suc count) ∷ runs)) bytes place ≡ verdict_at (word_of rule (run_of rule count) runs) bytes place
  unfolding enter led
  enter_some bytes place count runs = by rule.length (omega arith)
    where
      by : (n : ℕ) → n ≡ suc (rule.length - 1) → verdict_behind (enter_word n rule count runs (enter runs)) bytes place ≡ verdict_at (word_of rule (run_of rule count) runs) bytes place
      by n e = rw e

  module _ (bytes : List ℕ) (until : ℕ) where
    checks_none : Checks bytes until until rule until
    unfolding enter run_bytes
    checks_none = record { within = omega arith; over = λ l. absurd (omega arith); whole = λ l. whole; cut = λ l. cut }
      where
        whole : (count : ℕ) (runs : List Run) → until ≡ until + count * rule.length → verdict_behind (enter (run_of rule count ∷ runs)) bytes until ≡ verdict_behind (enter runs) bytes until
        whole zero runs e = refl
        whole (suc count) runs e = absurd (omega (arith, suc-mul count rule.length))

        cut : (count : ℕ) (runs : List Run) → until < until + count * rule.length → until ≡ length bytes
            → verdict_behind (enter (run_of rule count ∷ runs)) bytes until ≡ Unfinished (until + count * rule.length - until + run_bytes runs)
        cut zero runs h e = absurd (omega arith)
        cut (suc count) runs h e =
            enter_some bytes until count runs
            ∙ word_cut bytes until (rule.length - 1) (sign_first rule) rule.greatest (run_of rule count) runs (omega arith)
            ∙ ap Unfinished (omega (arith, suc-mul count rule.length))

    module _ (at : ℕ) (before : at < until) where
      -- the verdict at the first of some words
      abbrev There : ℕ → List Run → Verdict
      There count runs = verdict_at (word_of rule (run_of rule count) runs) bytes at

      -- below `until` there is a word, and others behind it
      checks_word : (broken : ℕ) → broken ≤ until
          → (broken < until → (count : ℕ) (runs : List Run) → until ≤ at + rule.length + count * rule.length → There count runs ≡ over_at broken)
          → (broken ≡ until → (count : ℕ) (runs : List Run) → until ≡ at + rule.length + count * rule.length → There count runs ≡ verdict_behind (enter runs) bytes until)
          → (broken ≡ until → (count : ℕ) (runs : List Run) → until < at + rule.length + count * rule.length → until ≡ length bytes → There count runs ≡ Unfinished (at + rule.length + count * rule.length - until + run_bytes runs))
          → Checks bytes at until rule broken
      checks_word broken within over whole cut = record {
        within = within;
        over = λ l. elim [ zero ↦ λ runs h. absurd (omega arith) | suc count ↦ λ runs h. enter_some bytes at count runs ∙ over l count runs (omega (arith, suc-mul count rule.length)) ];
        whole = λ l. elim [ zero ↦ λ runs h. absurd (omega arith) | suc count ↦ λ runs h. enter_some bytes at count runs ∙ whole l count runs (omega (arith, suc-mul count rule.length)) ];
        cut = λ l. elim [ zero ↦ λ runs h e. absurd (omega arith) | suc count ↦ λ runs h e. enter_some bytes at count runs ∙ cut l count runs (omega (arith, suc-mul count rule.length)) e ∙ ap (λ (n : ℕ). Unfinished (n + run_bytes runs)) (omega (arith, suc-mul count rule.length)) ];
      }

      pub checks_over : (broken : ℕ) → broken < until → Judges bytes at until rule broken → Checks bytes at until rule broken
      checks_over broken h j = checks_word broken (omega arith) (λ l count runs k. j.over h (run_of rule count) runs) (λ l. absurd (omega arith)) (λ l. absurd (omega arith))

      module _ (judges : Judges bytes at until rule until) where
        checks_cut : until < at + rule.length → Checks bytes at until rule until
        unfolding run_bytes
        checks_cut h =
            checks_word until (omega arith) (λ l. absurd (omega arith)) (λ l count runs k. absurd (omega arith))
            (λ l count runs k e. judges.cut refl h e (run_of rule count) runs ∙ ap Unfinished (omega arith))

        checks_next : at + rule.length ≤ until → (broken : ℕ) → Checks bytes (at + rule.length) until rule broken → Checks bytes at until rule broken
        checks_next h broken c =
            checks_word broken c.within (λ l count runs k. past count runs ∙ c.over l count runs k) (λ l count runs k. past count runs ∙ c.whole l count runs k) (λ l count runs k e. past count runs ∙ c.cut l count runs k e)
          where
            past : (count : ℕ) (runs : List Run) → There count runs ≡ verdict_behind (enter (run_of rule count ∷ runs)) bytes (at + rule.length)
            past count runs = judges.whole refl h (run_of rule count) runs

    module _ (place at : ℕ) (c : Carries bytes place until rule at) where
      -- past a word that breaks nothing
      pub carries_next : at < until → Judges bytes at until rule until → Carries bytes place until rule (at + rule.length)
      carries_next inside judged = (λ h broken k. c.0 (omega arith) broken (checks_next at inside judged h broken k), λ h. c.0 (omega arith) until (checks_cut at inside judged h))

      pub carries_all : until ≤ at → Checks bytes place until rule until
      carries_all h =
          either (ltb until at) (λ t. c.1 (ltb-true until at t))
          (λ t. let e : at ≡ until = omega (arith, ltb-false until at t) in c.0 (omega arith) until (rw e checks_none))

-- where the first byte of each is below the limit's, no word of a rule without a sign breaks it
module _ (rule : Rule) (sound : Sound rule) (some : 1 ≤ rule.length) (plain : rule.sign ≡ 0) (bytes : List ℕ) (below : Below 256 bytes) (place until limit : ℕ) (within : until ≤ length bytes) (under : limit ≤ limit_first rule) where
  firsts_from : (left at : ℕ) → until ≤ at + left → Carries bytes place until rule at → FirstsBelow bytes at until rule.length limit → Checks bytes place until rule until
  firsts_from zero at h c f = carries_all rule some bytes until place at c (omega arith)
  firsts_from (suc left) at h c f =
      either (ltb at until)
      (λ t. let inside = ltb-true at until t in
      let b = get_or bytes at 0 in
      let judged : Judges bytes at until rule until =
      first_below bytes at until rule (record { some = some; before = inside; within = within }) b (unsigned rule sound some plain b) below (omega (arith, firsts_first bytes until rule.length limit at inside f)) in
      firsts_from left (at + rule.length) (omega arith) (carries_next rule some bytes until place at c inside judged) (firsts_behind bytes until rule.length limit at f))
      (λ t. carries_all rule some bytes until place at c (ltb-false at until t))

  pub firsts_settle : place ≤ until → FirstsBelow bytes place until rule.length limit → Checks bytes place until rule until
  firsts_settle h f = firsts_from until place (omega arith) (carries_start bytes place until rule h) f

-- nor where what counts of its first two bytes is below the limit's
module _ (rule : Rule) (sound : Sound rule) (two : 2 ≤ rule.length) (bytes : List ℕ) (below : Below 256 bytes) (place until mask most : ℕ) (within : until ≤ length bytes) (is : mask ≡ mask_of rule * 256 + 255) (under : most < rule.greatest / 256 ^ (rule.length - 2)) where
  twos_from : (left at : ℕ) → until ≤ at + left → Carries bytes place until rule at → TwosUnder bytes at until rule.length mask most → Checks bytes place until rule until
  twos_from zero at h c f = carries_all rule (omega arith) bytes until place at c (omega arith)
  twos_from (suc left) at h c f =
      either (ltb at until)
      (λ t. let inside = ltb-true at until t in
      let first = twos_first bytes until rule.length mask most at inside f in
      let judged : Judges bytes at until rule until =
      two_below bytes at until rule (record { some = omega arith; before = inside; within = within }) two first.0 below sound (bit_and (get_or bytes at 0 * 256 + get_or bytes (at + 1) 0) mask)
      (ap (bit_and (get_or bytes at 0 * 256 + get_or bytes (at + 1) 0)) is) (omega (arith, first.1)) in
      twos_from left (at + rule.length) (omega arith) (carries_next rule (omega arith) bytes until place at c inside judged) (twos_behind bytes until rule.length mask most at f))
      (λ t. carries_all rule (omega arith) bytes until place at c (ltb-false at until t))

  pub twos_settle : place ≤ until → TwosUnder bytes place until rule.length mask most → Checks bytes place until rule until
  twos_settle h f = twos_from until place (omega arith) (carries_start bytes place until rule h) f

-- ---- some words, and no others

module _ (bytes : List ℕ) (place count : ℕ) (rule : Rule) (after : ℕ) where
  -- words without bytes are passed over
  pub pass_none : rule.length ≡ 0 → place ≤ length bytes → PassedTo bytes place count rule after place
  unfolding enter
  pass_none e h =
      record {
        same = rw e (omega (arith, mul-zero count));
        within = h;
        leads = λ runs k. ap (λ (move : Move State). verdict_behind move bytes place) (run_empty rule e count runs (enter runs));
      }

  module _ (until broken : ℕ) (is : until ≡ min (place + count * rule.length) (length bytes)) (checks : Checks bytes place until rule broken) where
    pub pass_over : broken < until → PassedFrom bytes place count rule after (Err (StopRefused (record { reason = ValueRange; place = broken })))
    pass_over h runs k = checks.over h count runs (omega arith)

    pub pass_cut : until ≤ broken → until < place + count * rule.length → PassedFrom bytes place count rule after (Err (StopUnfinished (place + count * rule.length - until + after)))
    pass_cut h l runs k = rw (← k) (checks.cut (omega arith) count runs l (omega arith))

    pub pass_whole : until ≤ broken → place + count * rule.length ≤ until → PassedTo bytes place count rule after (place + count * rule.length)
    pass_whole h l =
        let e : until ≡ place + count * rule.length = omega arith in
        record { same = refl; within = omega arith; leads = λ runs k. checks.whole (omega arith) count runs e ∙ rw e }
