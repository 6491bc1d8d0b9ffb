-- The machine of array packs gives the reasons of document 01's table. Assumes nothing.
use Prim.Native.Nat.{ℕ, zero, suc, ◌+◌, ◌-◌, ◌*◌, ◌<◌, ◌≤◌}
use mathlib.Core.Path.{◌≡◌, refl, sym, ap, ◌∙◌, subst, subst₂}
use mathlib.Core.Bool.{Bool, true, false, ◌&&◌, and-false}
use mathlib.Core.List.{List, [], ◌∷◌, ◌++◌}
use native.Mathlib.Omega.{arith}
use borrow.Author.Tests.{lt-ltb, le-ltb, eq-eqb, ne_eqb, ltb-true, ltb-false, eqb-true, eqb-false}
use lib.Dec.{eqb, ltb}
use lib.ListN.{length, take, drop, length-append, length-drop}
use lib.Seq.{take-length, drop-length, take-append_seam, drop-append_seam}
use Rattle.verdict.specs.declared.Reason.{Reason}
use Rattle.verdict.specs.declared.Reason.TheVariants.{Zero, TooLarge, PaddedNumber}
use Rattle.verdict.specs.Rows.{Row, Blamed}
use Rattle.verdict.specs.Says.{OneReason}
use Rattle.verdict.specs.Machine.{Move, on, done, bad, Moved, Accepts, Blames}
use Rattle.verdict.proofs.Cases.{by_test, either}
use Rattle.verdict.proofs.Judging.{Kept, Leads, Reaches, one_blamed}
use Rattle.std.specs.Prelude.{Result, Ok, Err}
use Rattle.number.specs.declared.Effect.{Effect}
use Rattle.number.specs.declared.Effect.TheVariants.{Ends, GoesOn}
use Rattle.number.specs.Octet.{ended, gone_on, effect_of}
use Rattle.array.specs.Meaning.{product}
use Rattle.array.specs.Table.{Field, dims, size, element, processing, limit, positive, over, octet_rows, OctetsRead, with_octet, Part, field, array, part_behind_sizes, part_behind, rows_in, rows_behind, rows_of, Why}
use Rattle.array.specs.Machine.{reason_in, State, number, body, enter, behind, behind_effect, move}
use Rattle.array.specs.Spelling.{ArrayPack}
use Rattle.array.proofs.Products.{product_more}
use Rattle.array.proofs.Accepting.{pack_accepted}

-- the table gives at most one reason
pub one_reason : OneReason Why
one_reason w = one_blamed (rows_of w)

-- ---- one octet

-- the reasons of numbers in a field are the table's
zero_reason : (f : Field) → Zero ≡ reason_in f Zero
zero_reason dims = refl
zero_reason (size more product) = refl
zero_reason (element product) = refl
zero_reason (processing total) = refl

padded_reason : (f : Field) → PaddedNumber ≡ reason_in f PaddedNumber
padded_reason dims = refl
padded_reason (size more product) = refl
padded_reason (element product) = refl
padded_reason (processing total) = refl

over_reason : (f : Field) → over f ≡ reason_in f TooLarge
over_reason dims = refl
over_reason (size more product) = refl
over_reason (element product) = refl
over_reason (processing total) = refl

-- a number is 0 where both its octets so far and the next one are
zero_both : (v o : ℕ) → eqb v 0 && eqb o 0 ≡ eqb (v * 128 + o) 0
zero_both zero o = let e : o ≡ 0 * 128 + o = omega arith in ap (λ (n : ℕ). eqb n 0) e
zero_both (suc v) o = rw (ne_eqb (suc v) 0 (λ e. omega arith), ne_eqb (suc v * 128 + o) 0 (λ e. omega arith))

zero_padded : (v o : ℕ) → 128 ≤ o → eqb v 0 && eqb o 128 ≡ eqb (v * 128 + (o - 128)) 0
zero_padded zero o h =
    either (eqb o 128) (λ t. t ∙ sym (eq-eqb (0 * 128 + (o - 128)) 0 (omega (arith, eqb-true o 128 t))))
    (λ t. t ∙ sym (ne_eqb (0 * 128 + (o - 128)) 0 (λ e. eqb-false o 128 t (omega arith))))
zero_padded (suc v) o h = rw (ne_eqb (suc v) 0 (λ e. omega arith), ne_eqb (suc v * 128 + (o - 128)) 0 (λ e. omega arith))

module _ (f : Field) (value octet : ℕ) where
  abbrev rows_for : Bool → Bool → ℕ → List Row
  rows_for none padded least =
      record { broken = none; reason = Zero } ∷ record { broken = padded; reason = PaddedNumber } ∷ record { broken = ltb (limit f) least; reason = over f } ∷ []

  -- the rules of a last octet, and of any other
  last_rows : octet < 128 → octet_rows f value octet ≡ rows_for (positive f && eqb (value * 128 + octet) 0) false (value * 128 + octet)
  last_rows h = rw (zero_both value octet, ne_eqb octet 128 (λ e. omega arith), and-false (eqb value 0), lt-ltb octet 128 h)

  more_rows : 128 ≤ octet → octet_rows f value octet ≡ rows_for false (eqb (value * 128 + (octet - 128)) 0) ((value * 128 + (octet - 128)) * 128)
  more_rows h = rw (ne_eqb octet 0 (λ e. omega arith), and-false (eqb value 0), and-false (positive f), zero_padded value octet h, le-ltb octet 128 h)

  -- what an octet's effect says: it breaks no rule of the table, and the value behind it; or the reason of the first rule broken
  abbrev Ruled : List Row → Result Effect Reason → Type 0
  Ruled rows (Ok (Ends v)) = Kept rows × ((octet < 128) × ((v ≡ value * 128 + octet) × (positive f ≡ true → 0 < v)))
  Ruled rows (Ok (GoesOn v)) = Kept rows × ((128 ≤ octet) × (v ≡ value * 128 + (octet - 128)))
  Ruled rows (Err reason) = Blamed rows (reason_in f reason)

  last_ruled : octet < 128 → Ruled (octet_rows f value octet) (ended (positive f) (limit f) (value * 128 + octet))
  unfolding Blamed
  last_ruled l =
      let n = value * 128 + octet in
      subst (λ (rows : List Row). Ruled rows (ended (positive f) (limit f) n)) (sym (last_rows l))
      (by_test (Ruled (rows_for (positive f && eqb n 0) false n)) (positive f && eqb n 0) _ _ (λ z. rw z (zero_reason f))
      (λ z. by_test (Ruled (rows_for (positive f && eqb n 0) false n)) (ltb (limit f) n) _ _ (λ t. rw (z, t) (over_reason f))
      (λ t. ((z, (refl, (t, tt))), (l, (refl, λ p. omega (arith, eqb-false n 0 (rw p at z))))))))

  more_ruled : 128 ≤ octet → Ruled (octet_rows f value octet) (gone_on (limit f) (value * 128 + (octet - 128)))
  unfolding Blamed
  more_ruled l =
      let m = value * 128 + (octet - 128) in
      subst (λ (rows : List Row). Ruled rows (gone_on (limit f) m)) (sym (more_rows l))
      (by_test (Ruled (rows_for false (eqb m 0) (m * 128))) (eqb m 0) _ _ (λ z. rw z (padded_reason f))
      (λ z. by_test (Ruled (rows_for false (eqb m 0) (m * 128))) (ltb (limit f) (m * 128)) _ _ (λ t. rw (z, t) (over_reason f)) (λ t. ((refl, (z, (t, tt))), (l, refl)))))

  ruled : Ruled (octet_rows f value octet) (effect_of octet value (positive f) (limit f))
  ruled = by_test (Ruled (octet_rows f value octet)) (ltb octet 128) _ _ (λ h. last_ruled (ltb-true octet 128 h)) (λ h. more_ruled (ltb-false octet 128 h))

-- ---- the numbers before a byte

-- the numbers that stand before a field's number
data Before : List ℕ → Field → Type 0 where
  none : Before [] dims
  sizes_begun : (sizes : List ℕ) (more : ℕ) → Before ((length sizes + suc more) ∷ sizes) (size more (product sizes))
  sizes_whole : (sizes : List ℕ) → Before (length sizes ∷ sizes) (element (product sizes))
  element_whole : (sizes : List ℕ) (e : ℕ) → Before (length sizes ∷ (sizes ++ (e ∷ []))) (processing (product sizes * e))

-- the numbers of the pack are whole
record Whole (numbers : List ℕ) : Type 0 where
  count : ℕ
  others : List ℕ
  parts : numbers ≡ count ∷ others
  enough : count + 2 ≤ length others

before_part : {numbers : List ℕ} {f : Field} → Before numbers f → part_behind numbers ≡ field f
before_part none = refl
before_part (sizes_begun sizes more) = rw (lt-ltb (length sizes) (length sizes + suc more) (omega arith)) (ap (λ (k : ℕ). field (size k (product sizes))) (omega arith))
before_part (sizes_whole sizes) = rw (le-ltb (length sizes) (length sizes) (omega arith), take-length sizes, drop-length sizes)
before_part (element_whole sizes e) =
    rw (le-ltb (length (sizes ++ (e ∷ []))) (length sizes) (rw length-append (omega arith)), take-append_seam sizes (e ∷ []), drop-append_seam sizes (e ∷ []))

-- a list of two or more
two_behind : (p : ℕ) (l : List ℕ) → 2 ≤ length l → part_behind_sizes p l ≡ array
two_behind p [] h = absurd (omega arith)
two_behind p (e ∷ []) h = absurd (omega arith)
two_behind p (e ∷ one ∷ l) h = refl

whole_part : (numbers : List ℕ) → Whole numbers → part_behind numbers ≡ array
whole_part numbers w =
    let k = w.count in
    let l = w.others in
    rw (w.parts, le-ltb (length l) k (omega (arith, w.enough))) (two_behind (product (take k l)) (drop k l) (simp length-drop (omega (arith, w.enough))))

whole_more : (numbers : List ℕ) (x : ℕ) → Whole numbers → Whole (numbers ++ (x ∷ []))
whole_more numbers x w =
    record { count = w.count; others = w.others ++ (x ∷ []); parts = ap (λ (l : List ℕ). l ++ (x ∷ [])) w.parts; enough = rw length-append (omega (arith, w.enough)) }

-- ---- the machine beside them

-- what is begun is where the machine stands
abbrev Stands : OctetsRead → State → Type 0
Stands begun (number f value) = Before begun.numbers f × (begun.value ≡ value)
Stands begun (body more) = Whole begun.numbers

abbrev Led : OctetsRead → Move State → Type 0
Led begun next = Moved next (Stands begun) (Unit {0}) (λ r. ⊥)

abbrev with_number : List ℕ → ℕ → OctetsRead
with_number numbers x = record { numbers = numbers ++ (x ∷ []); value = 0 }

enter_led : (begun : OctetsRead) (total : ℕ) → Whole begun.numbers → Led begun (enter total)
enter_led begun zero w = tt
enter_led begun (suc more) w = w

-- one number more leads where the machine does
number_led : {numbers : List ℕ} {f : Field} → Before numbers f → (x : ℕ) → (positive f ≡ true → 0 < x) → Led (with_number numbers x) (behind f x)
unfolding product
number_led none x p = let h = p refl in let e : 0 + suc (x - 1) ≡ x = omega arith in (subst (λ (k : ℕ). Before (k ∷ []) (size (x - 1) 1)) e (sizes_begun [] (x - 1)), refl)
number_led (sizes_begun sizes zero) x p =
    (subst₂ (λ (k q : ℕ). Before (k ∷ (sizes ++ (x ∷ []))) (element q)) (length-append sizes (x ∷ [])) (product_more sizes x) (sizes_whole (sizes ++ (x ∷ []))), refl)
number_led (sizes_begun sizes (suc more)) x p =
    let e : length (sizes ++ (x ∷ [])) + suc more ≡ length sizes + suc (suc more) = rw length-append (omega arith) in
    (subst₂ (λ (k q : ℕ). Before (k ∷ (sizes ++ (x ∷ []))) (size more q)) e (product_more sizes x) (sizes_begun (sizes ++ (x ∷ [])) more), refl)
number_led (sizes_whole sizes) x p = (element_whole sizes x, refl)
number_led (element_whole sizes e) x p = enter_led _ (product sizes * e) (record { count = length sizes; others = (sizes ++ (e ∷ [])) ++ (x ∷ []); parts = refl; enough = simp length-append (omega arith) })

-- the rules of the next byte
abbrev rows_next : OctetsRead → ℕ → List Row
rows_next begun octet = rows_in (part_behind begun.numbers) begun.value octet

-- a byte that the machine takes breaks no rule of them, and any other is refused for the first rule broken
abbrev Follows : List Row → OctetsRead → Move State → Type 0
Follows rows begun next = Moved next (λ t. Kept rows × Stands begun t) (Kept rows) (λ r. Blamed rows r)

led_follows : (rows : List Row) (begun : OctetsRead) (next : Move State) → Kept rows → Led begun next → Follows rows begun next
led_follows rows begun (on s) k l = (k, l)
led_follows rows begun done k l = k
led_follows rows begun (bad r) k l = absurd l

octet_follows : (begun : OctetsRead) (f : Field) (octet : ℕ) → Before begun.numbers f → Follows (rows_next begun octet) (with_octet begun octet) (move (number f begun.value) octet)
octet_follows begun f octet b =
    subst (λ (part : Part). Follows (rows_in part begun.value octet) (with_octet begun octet) (move (number f begun.value) octet)) (sym (before_part b))
    (go (effect_of octet begun.value (positive f) (limit f)) (ruled f begun.value octet))
  where
    go : (e : Result Effect Reason) → Ruled f begun.value octet (octet_rows f begun.value octet) e → Follows (octet_rows f begun.value octet) (with_octet begun octet) (behind_effect f e)
    go (Ok (Ends v)) r = led_follows (octet_rows f begun.value octet) (with_octet begun octet) (behind f v) r.0 (rw (lt-ltb octet 128 r.1.0, ← r.1.1.0) (number_led b v r.1.1.1))
    go (Ok (GoesOn v)) r = (r.0, rw (le-ltb octet 128 r.1.0) (b, sym r.1.1))
    go (Err reason) r = r

body_follows : (begun : OctetsRead) (more octet : ℕ) → Whole begun.numbers → Follows (rows_next begun octet) (with_octet begun octet) (enter more)
body_follows begun more octet w =
    let whole = by_test (λ (k : OctetsRead). Whole k.numbers) (ltb octet 128) _ _ (λ _. whole_more begun.numbers _ w) (λ _. w) in
    led_follows (rows_next begun octet) (with_octet begun octet) (enter more) (subst (λ (part : Part). Kept (rows_in part begun.value octet)) (sym (whole_part begun.numbers w)) tt) (enter_led (with_octet begun octet) more whole)

step_follows : (begun : OctetsRead) (s : State) (octet : ℕ) → Stands begun s → Follows (rows_next begun octet) (with_octet begun octet) (move s octet)
step_follows begun (number f value) octet x = subst (λ (v : ℕ). Follows (rows_next begun octet) (with_octet begun octet) (move (number f v) octet)) x.1 (octet_follows begun f octet x.0)
step_follows begun (body more) octet x = body_follows begun more octet x

-- ---- the table

-- nothing begun
abbrev start : OctetsRead
start = record { numbers = []; value = 0 }

blames_behind : (w : List ℕ) (begun : OctetsRead) (s : State) (r : Reason) → Stands begun s → Blames move s w r → Blamed (rows_behind begun w) r
unfolding Blames rows_behind
blames_behind [] begun s r x b = absurd b
blames_behind (octet ∷ []) begun s r x b = go (move s octet) (step_follows begun s octet x) b
  where
    go : (next : Move State) → Follows (rows_next begun octet) (with_octet begun octet) next → Leads move [] r next → Blamed (rows_next begun octet) r
    go (on t) f b = absurd b
    go done f b = absurd b
    go (bad q) f b = subst (Blamed (rows_next begun octet)) b.1 f
blames_behind (octet ∷ b ∷ w) begun s r x y = go (move s octet) (step_follows begun s octet x) y (λ t. blames_behind (b ∷ w) (with_octet begun octet) t r)
  where
    go : (next : Move State) → Follows (rows_next begun octet) (with_octet begun octet) next → Leads move (b ∷ w) r next → ((t : State) → Stands (with_octet begun octet) t → Blames move t (b ∷ w) r → Blamed (rows_behind (with_octet begun octet) (b ∷ w)) r) → Blamed (rows_behind (with_octet begun octet) (b ∷ w)) r
    go (on t) f y ih = ih t f.1 y
    go done f y ih = absurd y
    go (bad q) f y ih = let z : ◌≡◌ {A = ℕ} (suc (length w)) 0 = ap length y.0 in absurd (omega arith)

pub blames_why : (w : List ℕ) (r : Reason) → Blames move (number dims 0) w r → Why w r
blames_why w r b = blames_behind w start (number dims 0) r (none, refl) b

-- the beginning of a pack breaks no rule of the table
kept_blamed : (rows : List Row) (r : Reason) → Kept rows → Blamed rows r → ⊥
unfolding Blamed
kept_blamed [] r k b = b
kept_blamed (row ∷ rows) r k b = kept_blamed rows r k.1 (rw k.0 at b)

accepted_kept : (w t : List ℕ) (begun : OctetsRead) (s : State) (r : Reason) → Stands begun s → Accepts move s (w ++ t) → Blamed (rows_behind begun w) r → ⊥
unfolding Accepts rows_behind Blamed
accepted_kept [] t begun s r x a b = b
accepted_kept (octet ∷ []) t begun s r x a b = go (move s octet) (step_follows begun s octet x) a.1
  where
    go : (next : Move State) → Follows (rows_next begun octet) (with_octet begun octet) next → Reaches move next t → ⊥
    go (on u) f a = kept_blamed (rows_next begun octet) r f.0 b
    go done f a = kept_blamed (rows_next begun octet) r f b
    go (bad q) f a = absurd a
accepted_kept (octet ∷ b ∷ w) t begun s r x a y = go (move s octet) (step_follows begun s octet x) a.1 (λ u z c. accepted_kept (b ∷ w) t (with_octet begun octet) u r z c y)
  where
    go : (next : Move State) → Follows (rows_next begun octet) (with_octet begun octet) next → Reaches move next (b ∷ (w ++ t)) → ((u : State) → Stands (with_octet begun octet) u → Accepts move u (b ∷ (w ++ t)) → ⊥) → ⊥
    go (on u) f a ih = ih u f.1 a
    go done f a ih = let z : ◌≡◌ {A = ℕ} (suc (length (w ++ t))) 0 = ap length a in absurd (omega arith)
    go (bad q) f a ih = absurd a

pub beginning_kept : (w t : List ℕ) (r : Reason) → ArrayPack (w ++ t) → Why w r → ⊥
beginning_kept w t r p = accepted_kept w t start (number dims 0) r (none, refl) (pack_accepted (w ++ t) p)
