-- The machine of matrix packs keeps the laws of machines. Assumes nothing.
use Prim.Native.Nat.{ℕ, zero, suc, ◌+◌, ◌-◌, ◌*◌, ◌/◌, ◌%◌, ◌^◌, ◌≤◌, ◌<◌, min, max}
use mathlib.Core.Path.{◌≡◌, refl, sym, ap, ◌∙◌, subst}
use mathlib.Core.Bool.{Bool, true, false, not, ◌&&◌, cond, and-false, and-eq-true_iff, false≢true}
use mathlib.Core.List.{List, [], ◌∷◌}
use mathlib.Core.Logic.{◌⊎◌, inl, inr, ⊎_elim}
use native.Mathlib.Nat.{le-mul_of_pos_right, one-le-pow, zero-div, div-eq_of_eq-mul_left, pow-suc, mul-zero, zero-mul, suc-mul, mod-lt, mul-le-mul_right, mul-mod_right, zero-mod, add-zero, le_trans, mul-le-mul_left, min-le_left, mul_assoc}
use native.Mathlib.Omega.{arith}
use borrow.Author.Tests.{eqb-false, ltb-false, ltb-true, eqb-true, ne_eqb, le-ltb, eq-eqb}
use lib.Dec.{eqb, ltb, lit<}
use lib.Pow.{pow-add}
use Rattle.verdict.specs.Rows.{Row, judged}
use Rattle.verdict.proofs.Judging.{Kept, judged_kept, judged_by}
use Rattle.verdict.specs.Machine.{Move, on, done, Falls, Nears, Laws}
use Rattle.rule.proofs.Certain.{deviation_sound, coefficient_sound, deviation_length, coefficient_length}
use Rattle.matrix.specs.declared.Fields.{Fields}
use Rattle.matrix.specs.declared.Told.{Told}
use Rattle.verdict.proofs.Cases.{by_test, either, and_right}
use Rattle.word.specs.Digits.{digits}
use Rattle.rule.specs.declared.rules.Rule.{Rule}
use Rattle.rule.specs.Rules.{cleared, allowed}
use Rattle.rule.specs.Sound.{Sound}
use Rattle.matrix.specs.Meaning.{pairs, sum, LawfulFirst, LawfulFields}
use Rattle.matrix.specs.Header.{bit, vector_bytes, first, second, single, in_mode1}
use Rattle.matrix.specs.Table.{size_rows, single_rows, control1_rows, control2_rows, vector_rows, word_rows}
use Rattle.matrix.specs.Machine.{State, size, control1, control2, vector, word, Run, enter, enter_run, enter_word, run_bytes, in_word, rest_of, words_of, all_sent_count, enter_values, in_single, in_first, step, least, least_for, shortest, least_behind, least_values, fewest}
use Rattle.matrix.specs.Reached.{GoodRuns, GoodRun, GoodWord, GoodVector, Good}
use Rattle.matrix.proofs.BitVector.{sum_append}
use Rattle.matrix.proofs.ControlBytes.{size_kept, mode_one, mode_two, mode_told}
use Rattle.matrix.proofs.FieldRules.{coefficients_lawful, deviations_lawful, single_lawful}
use Rattle.matrix.proofs.Pairs.{pairs_some, pairs_most}

-- by a test of two numbers
by_eqb : {X : Type 0} (P : X → Type 0) (a b : ℕ) (x y : X) → (a ≡ b → P x) → ((a ≡ b → ⊥) → P y) → P (cond (eqb a b) x y)
by_eqb P a b x y f g = by_test P (eqb a b) x y (λ e. f (eqb-true a b e)) (λ e. g (eqb-false a b e))

-- the fewest values of n variables are some
least_some : (each n : ℕ) → 1 ≤ each → 1 ≤ n → 1 ≤ least_for each n
least_some each n e h =
    by_eqb (λ (k : ℕ). 1 ≤ k) n 1 each (min (n * each) (min (pairs n) ((pairs n + 7) / 8 + 1))) (λ o. e)
    (λ ne. omega (arith, pairs_some n (omega arith), le-mul_of_pos_right {m = each} n (omega arith)))

shortest_some : (mapped : Bool) → 1 ≤ shortest mapped
shortest_some true = omega arith
shortest_some false = omega arith

behind_some : (told : Told) (n : ℕ) → 1 ≤ n → least (size told) ≤ suc (least_behind told n)
behind_some told n h =
    either told.mode1
    (λ e. rw e (omega (arith, least_some (shortest told.mapped) n (shortest_some told.mapped) h, least_some 1 n (omega arith) h)))
    (λ e. rw e (omega (arith, least_some 1 n (omega arith) h)))

falls_size : (told : Told) (b : ℕ) → Falls least Good (least (size told)) (step (size told) b)
falls_size told b =
    judged_by (Falls least Good (least (size told))) (size_rows b) (on (control1 told b)) (λ r. tt)
    (λ k. let s = size_kept b k in (s, behind_some told b s.0))

-- some byte brings the machine nearer
abbrev Near : State → Type 0
Near s = (b : ℕ) × (b < 256) × Nears least (least s) (step s b)

-- two variables of one mapped coefficient in Mode 1, one variable in Mode 2
nears_size : (told : Told) → Near (size told)
unfolding judged
nears_size told = either told.mode1 (λ e. (2, lit< tt, rw e (by told.mapped))) (λ e. (1, lit< tt, rw e refl))
  where
    by : (mapped : Bool) → 3 ≡ suc (min (1 + least_for (shortest mapped) 2) (2 + least_for 1 2))
    by true = refl
    by false = refl

-- what the rules of control byte 1 leave
pub first_kept : (n b : ℕ) → 1 ≤ n → n ≤ 64 → Kept (control1_rows (first n b) b) → LawfulFirst (first n b)
first_kept n b h g k = coefficients_lawful (first n b) h g k.1.1

-- the fewest values behind control byte 1 are no more than those behind any lawful one
least_first : (f : Fields) → LawfulFirst f → least_for 1 f.n ≤ least_values f
least_first f g = go f.cs refl
  where
    two : 0 < f.clen → 2 ≤ f.n
    two h = by_eqb (λ (k : ℕ). 2 ≤ f.n) f.n 1 0 0 (λ e. absurd (omega (arith, g.size_one e))) (λ ne. omega (arith, g.size_least))

    many : (f.n ≡ 1 → ⊥) → least_for 1 f.n ≡ min (f.n * 1) (min (pairs f.n) ((pairs f.n + 7) / 8 + 1))
    many ne = rw (ne_eqb f.n 1 ne)

    go : (cs : Bool) → f.cs ≡ cs → least_for 1 f.n ≤ cond cs (bit cs * ((pairs f.n + 7) / 8) + min f.clen f.n) (cond (eqb f.clen 0) f.n (pairs f.n * f.clen))
    go true e = let h = g.sparse e in omega (arith, many (λ o. omega (arith, two h)), two h)
    go false e =
        by_eqb (λ (k : ℕ). least_for 1 f.n ≤ k) f.clen 0 f.n (pairs f.n * f.clen)
        (λ z. by_eqb (λ (k : ℕ). k ≤ f.n) f.n 1 1 (min (f.n * 1) (min (pairs f.n) ((pairs f.n + 7) / 8 + 1))) (λ o. g.size_least) (λ ne. omega arith))
        (λ nz. let h : 0 < f.clen = omega arith in omega (arith, many (λ o. omega (arith, two h)), le-mul_of_pos_right (pairs f.n) h))

-- the fewest bytes behind the size are no more than Mode 2's
behind_double : (told : Told) (n : ℕ) → least_behind told n ≤ 2 + least_for 1 n
behind_double told n = either told.mode1 (λ e. rw e (omega arith)) (λ e. rw e (omega arith))

falls_double : (told : Told) (n b : ℕ) → (1 ≤ n) × (n ≤ 64) → Falls least Good (least_behind told n) (in_first (first n b) b)
falls_double told n b g =
    judged_by (Falls least Good (least_behind told n)) (control1_rows (first n b) b) (on (control2 (first n b))) (λ r. tt)
    (λ k. let l = first_kept n b g.0 g.1 k in (l, omega (arith, behind_double told n, least_first (first n b) l)))

-- a byte that breaks no rule brings it nearer where the field's move does
near_kept : (n : ℕ) (rows : List Row) (next : Move State) → Kept rows → Nears least n next → Nears least n (judged rows next)
near_kept n rows next k x = subst (Nears least n) (sym (judged_kept rows next k)) x

-- a control byte 1 of Mode 2 behind which the fewest values follow
abbrev DoubleByte : ℕ → Type 0
DoubleByte n = (b : ℕ) × (b < 256) × (b / 128 ≡ 1) × Nears least (2 + least_for 1 n) (in_first (first n b) b)

nears_double : (n : ℕ) → DoubleByte n
nears_double n = either (eqb n 1) (λ e. without (rw e (sym (eqb-true n 1 e)))) (λ e. many (eqb-false n 1 e) (rw e))
  where
    byte : (b : ℕ) → b < 256 → b / 128 ≡ 1 → Kept (control1_rows (first n b) b) → least_for 1 n ≡ least_values (first n b) → DoubleByte n
    byte b h t k e = (b, h, t, near_kept (2 + least_for 1 n) (control1_rows (first n b) b) (on (control2 (first n b))) k (omega arith))

    without : least_for 1 n ≡ n → DoubleByte n
    without e = byte 0x80 (lit< tt) refl (refl, (refl, (refl, (refl, (refl, (and-false (eqb n 1), tt)))))) e

    many : (n ≡ 1 → ⊥) → least_for 1 n ≡ min (n * 1) (min (pairs n) ((pairs n + 7) / 8 + 1)) → DoubleByte n
    many ne e =
        let one : eqb n 1 && true ≡ false = rw (ne_eqb n 1 ne) in
        either (ltb n (min (pairs n) ((pairs n + 7) / 8 + 1))) (λ t. without (omega (arith, ltb-true n _ t)))
        (λ f. either (ltb (pairs n) ((pairs n + 7) / 8 + 1))
        (λ t. byte 0x91 (lit< tt) refl (refl, (refl, (refl, (refl, (refl, (one, tt)))))) (omega (arith, ltb-true (pairs n) _ t, ltb-false n _ f)))
        (λ s. byte 0xB1 (lit< tt) refl (refl, (refl, (refl, (refl, (refl, (one, tt)))))) (omega (arith, ltb-false (pairs n) _ s, ltb-false n _ f))))

pow_some : (n : ℕ) → 0 < 256 ^ n
pow_some n = one-le-pow n 256 (lit< tt)

-- the first byte's share of a rule's sign is none or 128
pub first_sign : (rule : Rule) (more : ℕ) → Sound rule → rule.length ≡ suc more → (rule.sign / 256 ^ more ≡ 0) ⊎ ((rule.sign / 256 ^ more ≡ 128) × (rule.greatest < 128 * 256 ^ more))
first_sign rule more s e =
    ⊎_elim (λ z. inl (rw z (zero-div (256 ^ more))))
    (λ h. let d : rule.sign ≡ 128 * 256 ^ more = omega (arith, h.0, ap (λ (k : ℕ). 256 ^ k) e, pow-suc 256 more) in inr (div-eq_of_eq-mul_left (pow_some more) d, omega (arith, h.1)))
    s.signed

good_start : (run : Run) (runs : List Run) (more count : ℕ) → GoodRun run → GoodRuns runs → run.rule.length ≡ suc more → run.count ≡ suc count
    → GoodWord more (run.rule.sign / 256 ^ more) run.rule.greatest (record { rule = run.rule; count = count }) runs
good_start run runs more count g h e c =
    record {
      short = omega (arith, g.sound.short);
      signed = first_sign run.rule more g.sound e;
      room = rw e at g.sound.room;
      first = record { sound = g.sound; counted = omega (arith, g.counted) };
      others = h;
    }

-- a machine that enters some words is in a good state from which their bytes are missing, or done where they have none
enter_by : (P : Move State → Type 0) (runs : List Run) → GoodRuns runs → (run_bytes runs ≡ 0 → P done) → ((t : State) → Good t → least t ≡ run_bytes runs → P (on t)) → P (enter runs)
unfolding enter run_bytes
enter_by P [] g end next = end refl
enter_by P (run ∷ runs) g end next =
    many (λ z. enter_by P runs g.1 (λ e. end (omega arith)) (λ t h e. next t h (omega arith))) run.count refl
  where
    one : (run.count * run.rule.length ≡ 0 → P (enter runs)) → (count : ℕ) → run.count ≡ suc count → (l : ℕ) → run.rule.length ≡ l → P (enter_word l run.rule count runs (enter runs))
    one past count c zero e = past (rw e (mul-zero run.count))
    one past count c (suc k) e =
        next (word k (run.rule.sign / 256 ^ k) run.rule.greatest (record { rule = run.rule; count = count }) runs) (good_start run runs k count g.0 g.1 e c)
        (let m : run.count * run.rule.length ≡ count * run.rule.length + run.rule.length = rw c (suc-mul count run.rule.length) in omega arith)

    many : (run.count * run.rule.length ≡ 0 → P (enter runs)) → (c : ℕ) → run.count ≡ c → P (enter_run run.rule c runs (enter runs))
    many past zero e = past (rw e (zero-mul run.rule.length))
    many past (suc count) e = one past count e run.rule.length refl

enter_falls : (runs : List Run) (n : ℕ) → GoodRuns runs → n ≤ suc (run_bytes runs) → Falls least Good n (enter runs)
enter_falls runs n g h = enter_by (Falls least Good n) runs g (λ e. omega arith) (λ t k e. (k, omega arith))

enter_nears : (runs : List Run) (n : ℕ) → GoodRuns runs → n ≡ suc (run_bytes runs) → Nears least n (enter runs)
enter_nears runs n g h = enter_by (Nears least n) runs g (λ e. omega arith) (λ t k e. omega arith)

-- behind a byte of a word
word_falls : (more top : ℕ) (run : Run) (runs : List Run) → suc more ≤ 8 → top < 256 ^ more → GoodRun run → GoodRuns runs
    → Falls least Good (suc more + run_bytes (run ∷ runs)) (in_word more top run runs)
unfolding run_bytes
word_falls zero top run runs s r g h = enter_falls (run ∷ runs) _ (g, h) (omega arith)
word_falls (suc more) top run runs s r g h = (record { short = omega arith; signed = inl refl; room = r; first = g; others = h }, omega arith)

word_nears : (more top : ℕ) (run : Run) (runs : List Run) → GoodRun run → GoodRuns runs → Nears least (suc more + run_bytes (run ∷ runs)) (in_word more top run runs)
unfolding run_bytes
word_nears zero top run runs g h = enter_nears (run ∷ runs) _ (g, h) (omega arith)
word_nears (suc more) top run runs g h = omega arith

rest_room : (more top b : ℕ) → rest_of more top b < 256 ^ more
rest_room more top b = by_test (λ (k : ℕ). k < 256 ^ more) (ltb b (top / 256 ^ more)) _ _ (λ e. omega (arith, pow_some more)) (λ e. mod-lt top (pow_some more))

falls_word : (more sign top b : ℕ) (run : Run) (runs : List Run) → GoodWord more sign top run runs → Falls least Good (least (word more sign top run runs)) (step (word more sign top run runs) b)
unfolding run_bytes
falls_word more sign top b run runs g =
    judged_by (Falls least Good (suc more + run_bytes (run ∷ runs))) (word_rows (ltb (top / 256 ^ more) (cleared sign b))) (in_word more (rest_of more top (cleared sign b)) run runs) (λ r. tt)
    (λ k. word_falls more (rest_of more top (cleared sign b)) run runs g.short (rest_room more top (cleared sign b)) g.first g.others)

-- the byte 0 fits any limit
nears_word : (more sign top : ℕ) (run : Run) (runs : List Run) → GoodWord more sign top run runs → Near (word more sign top run runs)
unfolding run_bytes
nears_word more sign top run runs g =
    let z : cleared sign 0 ≡ 0 = ⊎_elim (λ e. rw e) (λ e. rw e.0) g.signed in (
      0,
      lit< tt,
      near_kept (suc more + run_bytes (run ∷ runs)) (word_rows (ltb (top / 256 ^ more) (cleared sign 0))) (in_word more (rest_of more top (cleared sign 0)) run runs)
          (rw z (le-ltb (top / 256 ^ more) 0 (omega arith)), tt) (word_nears more (rest_of more top (cleared sign 0)) run runs g.first g.others),
    )

-- what the rules of control byte 2 leave
pub second_kept : (f : Fields) (b : ℕ) → LawfulFirst f → Kept (control2_rows (second f b) b) → LawfulFields (second f b)
second_kept f b g k =
    deviations_lawful (second f b)
    (record { size_least = g.size_least; size_most = g.size_most; coefficient_length = g.coefficient_length; coefficient_flag = g.coefficient_flag; sparse = g.sparse; size_one = g.size_one })
    k.1.1

-- a pack with coefficients has two variables or more
pub two_sizes : (f : Fields) → LawfulFirst f → 0 < f.clen → 2 ≤ f.n
two_sizes f g h = either (eqb f.n 1) (λ e. absurd (omega (arith, g.size_one (eqb-true f.n 1 e)))) (λ e. omega (arith, g.size_least, eqb-false f.n 1 e))

-- the words of a matrix are good runs, and their bytes
pub words_good : (f : Fields) (sent : ℕ) → LawfulFields f → sent ≤ 2016 → GoodRuns (words_of f sent)
words_good f sent g h = (
  record { sound = deviation_sound f.sf f.slen g.deviation_length; counted = omega (arith, g.first.size_most) },
  (record { sound = coefficient_sound f.cf f.clen g.first.coefficient_length; counted = h }, tt),
)

word_bytes : (f : Fields) (sent : ℕ) → LawfulFields f → run_bytes (words_of f sent) ≡ f.n * f.slen + sent * f.clen
unfolding run_bytes
word_bytes f sent g = rw (deviation_length f.sf f.slen g.deviation_length, coefficient_length f.cf f.clen g.first.coefficient_length) (omega arith)

-- ---- behind the control bytes

pub all_most : (f : Fields) → LawfulFields f → all_sent_count f ≤ 2016
all_most f g = le_trans (mul-le-mul_left {n = 1} (pairs f.n) (min-le_left 1 f.clen)) (omega (arith, pairs_most f.n g.first.size_most))

full_bytes : (f : Fields) → LawfulFields f → run_bytes (words_of f (all_sent_count f)) ≡ f.n * f.slen + pairs f.n * f.clen
full_bytes f g = word_bytes f (all_sent_count f) g ∙ ap (λ (k : ℕ). f.n * f.slen + k) (mul_assoc (pairs f.n) (min 1 f.clen) f.clen ∙ ap (λ (k : ℕ). pairs f.n * k) (one_each f.clen))
  where
    one_each : (k : ℕ) → min 1 k * k ≡ k
    one_each zero = refl
    one_each (suc k) = let e : min 1 (suc k) ≡ 1 = omega arith in rw e (omega arith)

least_full : (f : Fields) → LawfulFields f → f.cs ≡ false → least_values f ≤ f.n * f.slen + pairs f.n * f.clen
least_full f g e =
    rw e (by_eqb (λ (k : ℕ). k ≤ f.n * f.slen + pairs f.n * f.clen) f.clen 0 f.n (pairs f.n * f.clen)
    (λ z. omega (arith, le-mul_of_pos_right f.n (positive z))) (λ z. omega arith))
  where
    positive : f.clen ≡ 0 → 0 < f.slen
    positive z = omega (arith, g.some_length)

least_sparse : (f : Fields) → f.cs ≡ true → least_values f ≤ vector_bytes f + (f.n * f.slen + fewest f 0 * f.clen)
least_sparse f e =
    rw e (by_eqb (λ (k : ℕ). 1 * ((pairs f.n + 7) / 8) + min f.clen f.n ≤ 1 * ((pairs f.n + 7) / 8) + (f.n * f.slen + max 0 k * f.clen)) f.slen 0 1 0
    (λ z. omega arith) (λ z. omega (arith, le-mul_of_pos_right {m = f.slen} f.n (omega arith))))

pub vector_none : (f : Fields) → f.cs ≡ false → vector_bytes f ≡ 0
vector_none f e = rw e (zero-mul ((pairs f.n + 7) / 8))

pub vector_some : (f : Fields) → LawfulFirst f → f.cs ≡ true → vector_bytes f ≡ suc (vector_bytes f - 1)
vector_some f g e = rw e (omega (arith, pairs_some f.n (two_sizes f g (g.sparse e))))

good_vector : (f : Fields) → LawfulFields f → f.cs ≡ true → GoodVector f (vector_bytes f - 1) 0
good_vector f g e = record { fields = g; sparse = e; within = omega (arith, vector_some f g.first e); counted = omega arith }

pub values_by : (P : Move State → Type 0) (f : Fields) → LawfulFirst f → (f.cs ≡ false → P (enter (words_of f (all_sent_count f)))) → (f.cs ≡ true → P (on (vector f (vector_bytes f - 1) 0))) → P (enter_values f (vector_bytes f))
values_by P f g full sparse =
    either f.cs (λ e. subst (λ (k : ℕ). P (enter_values f k)) (sym (vector_some f g e)) (sparse e)) (λ e. subst (λ (k : ℕ). P (enter_values f k)) (sym (vector_none f e)) (full e))

-- behind the header of fields whose values have n - 1 bytes at least
values_falls : (f : Fields) (n : ℕ) → LawfulFields f → (f.cs ≡ false → n ≤ 1 + (f.n * f.slen + pairs f.n * f.clen))
    → (f.cs ≡ true → n ≤ 1 + (vector_bytes f + (f.n * f.slen + fewest f 0 * f.clen))) → Falls least Good n (enter_values f (vector_bytes f))
values_falls f n g full sparse =
    values_by (Falls least Good n) f g.first
    (λ e. enter_falls (words_of f (all_sent_count f)) n (words_good f (all_sent_count f) g (all_most f g)) (omega (arith, full_bytes f g, full e)))
    (λ e. (good_vector f g e, omega (arith, vector_some f g.first e, sparse e)))

falls_control2 : (f : Fields) (b : ℕ) → LawfulFirst f → Falls least Good (least (control2 f)) (step (control2 f) b)
falls_control2 f b g =
    judged_by (Falls least Good (least (control2 f))) (control2_rows (second f b) b) (enter_values (second f b) (vector_bytes f)) (λ r. tt)
    (λ k. let l = second_kept f b g k in values_falls (second f b) (1 + least_values f) l (λ e. omega (arith, least_full (second f b) l e)) (λ e. omega (arith, least_sparse (second f b) e)))

values_nears : (f : Fields) (n : ℕ) → LawfulFields f → (f.cs ≡ false → n ≡ 1 + (f.n * f.slen + pairs f.n * f.clen))
    → (f.cs ≡ true → n ≡ 1 + (vector_bytes f + (f.n * f.slen + fewest f 0 * f.clen))) → Nears least n (enter_values f (vector_bytes f))
values_nears f n g full sparse =
    values_by (Nears least n) f g.first
    (λ e. enter_nears (words_of f (all_sent_count f)) n (words_good f (all_sent_count f) g (all_most f g)) (omega (arith, full_bytes f g, full e)))
    (λ e. omega (arith, vector_some f g.first e, sparse e))

-- no deviations, or mapped ones of one byte
nears_control2 : (f : Fields) → LawfulFirst f → Near (control2 f)
nears_control2 f g = either f.cs sparse full
  where
    byte : (b : ℕ) → b < 256 → Kept (control2_rows (second f b) b) → (f.cs ≡ false → least_values f ≡ f.n * (b % 16) + pairs f.n * f.clen)
        → (f.cs ≡ true → least_values f ≡ vector_bytes f + (f.n * (b % 16) + fewest (second f b) 0 * f.clen)) → Near (control2 f)
    byte b h k full sparse =
        (b, h, near_kept (1 + least_values f) (control2_rows (second f b) b) (enter_values (second f b) (vector_bytes f)) k (values_nears (second f b) (1 + least_values f) (second_kept f b g k) (λ e. omega (arith, full e)) (λ e. omega (arith, sparse e))))

    with_none : 0 < f.clen → Kept (control2_rows (second f 0) 0)
    with_none h = (refl, (refl, (refl, (refl, (ne_eqb f.clen 0 (λ e. omega arith), tt)))))

    with_one : Kept (control2_rows (second f 0x11) 0x11)
    with_one = (refl, (refl, (refl, (refl, (refl, tt)))))

    sparse : f.cs ≡ true → Near (control2 f)
    sparse e =
        either (ltb f.n f.clen)
        (λ t. byte 0x11 (lit< tt) with_one (λ x. absurd (false≢true (sym x ∙ e))) (λ x. rw e (omega (arith, ltb-true f.n f.clen t))))
        (λ t. byte 0 (lit< tt) (with_none (g.sparse e)) (λ x. absurd (false≢true (sym x ∙ e))) (λ x. rw e (omega (arith, ltb-false f.n f.clen t))))

    full : f.cs ≡ false → Near (control2 f)
    full e =
        either (eqb f.clen 0)
        (λ t. byte 0x11 (lit< tt) with_one (λ x. rw (e, t) (omega (arith, ap (λ (k : ℕ). pairs f.n * k) (eqb-true f.clen 0 t), mul-zero (pairs f.n)))) (λ x. absurd (false≢true (sym e ∙ x))))
        (λ t. byte 0 (lit< tt) (with_none (omega (arith, eqb-false f.clen 0 t))) (λ x. rw (e, t) (omega arith)) (λ x. absurd (false≢true (sym e ∙ x))))

-- ---- behind the size

-- what the rules of Mode 1's control byte leave
pub single_kept : (told : Told) (n b : ℕ) → (1 ≤ n) × (n ≤ 64) → Kept (single_rows (single told n b)) → LawfulFields (single told n b)
single_kept told n b g k = single_lawful (single told n b) refl g.0 g.1 k

-- a deviation that has bytes has the fewest of its format at least
shortest_least : (mapped : Bool) (length : ℕ) → allowed mapped length ≡ true → 0 < length → shortest mapped ≤ length
shortest_least true length a h = omega arith
shortest_least false length a h = by_eqb (λ (k : ℕ). 2 ≤ length) length 1 0 0 (λ e. absurd (false≢true (subst (λ (k : ℕ). allowed false k ≡ true) e a))) (λ ne. omega arith)

-- the fewest values of n variables are no more than those of any lawful fields
module _ (f : Fields) (g : LawfulFields f) where
  abbrev each : ℕ
  each = shortest f.sf

  least_full_each : f.cs ≡ false → least_for each f.n ≤ f.n * f.slen + pairs f.n * f.clen
  least_full_each e =
      either (eqb f.clen 0)
      (λ t. let z = eqb-true f.clen 0 t in
      let s : each ≤ f.slen = shortest_least f.sf f.slen g.deviation_length (omega (arith, g.some_length)) in
      by_eqb (λ (k : ℕ). k ≤ f.n * f.slen + pairs f.n * f.clen) f.n 1 each (min (f.n * each) (min (pairs f.n) ((pairs f.n + 7) / 8 + 1)))
      (λ o. omega (arith, mul-le-mul_left f.n s, ap (λ (k : ℕ). k * each) o))
      (λ ne. omega (arith, mul-le-mul_left f.n s)))
      (λ t. let h : 0 < f.clen = omega (arith, eqb-false f.clen 0 t) in
      let two = two_sizes f g.first h in
      rw (ne_eqb f.n 1 (λ o. omega arith)) (omega (arith, le-mul_of_pos_right (pairs f.n) h)))

  least_sparse_each : f.cs ≡ true → least_for each f.n ≤ vector_bytes f + (f.n * f.slen + fewest f 0 * f.clen)
  least_sparse_each e =
      let h = g.first.sparse e in
      let two = two_sizes f g.first h in
      rw (e, ne_eqb f.n 1 (λ o. omega arith))
      (by_eqb (λ (k : ℕ). min (f.n * each) (min (pairs f.n) ((pairs f.n + 7) / 8 + 1)) ≤ 1 * ((pairs f.n + 7) / 8) + (f.n * f.slen + max 0 k * f.clen)) f.slen 0 1 0
      (λ z. omega arith) (λ z. omega (arith, le-mul_of_pos_right {m = f.slen} f.n (omega arith))))

falls_single : (told : Told) (n b : ℕ) → (1 ≤ n) × (n ≤ 64) → told.mode1 ≡ true → Falls least Good (least_behind told n) (in_single (single told n b))
falls_single told n b g one =
    let f = single told n b in
    let most : least_behind told n ≤ 1 + least_for (shortest told.mapped) n = rw one (omega arith) in
    judged_by (Falls least Good (least_behind told n)) (single_rows f) (enter_values f (vector_bytes f)) (λ r. tt)
    (λ k. let l = single_kept told n b g k in
    values_falls f (least_behind told n) l (λ e. omega (arith, most, least_full_each f l e)) (λ e. omega (arith, most, least_sparse_each f l e)))

falls_control1 : (told : Told) (n b : ℕ) → (1 ≤ n) × (n ≤ 64) → Falls least Good (least_behind told n) (step (control1 told n) b)
falls_control1 told n b g =
    by_test (Falls least Good (least_behind told n)) (in_mode1 told b) (in_single (single told n b)) (in_first (first n b) b)
    (λ e. falls_single told n b g (mode_told told b e).0) (λ e. falls_double told n b g)

-- a control byte of Mode 1 behind which its fewest values follow: deviations of the fewest bytes, or coefficients of one byte, all or sparse
abbrev SingleByte : Told → ℕ → Type 0
SingleByte told n = (b : ℕ) × (b < 128) × Nears least (1 + least_for (shortest told.mapped) n) (in_single (single told n b))

nears_single : (told : Told) (n : ℕ) → (1 ≤ n) × (n ≤ 64) → SingleByte told n
nears_single told n g = either (eqb n 1) (λ t. without told.mapped refl (let o = eqb-true n 1 t in rw t (omega (arith, ap (λ (k : ℕ). k * shortest told.mapped) o)))) (λ t. many (eqb-false n 1 t) (rw t))
  where
    byte : (b : ℕ) → b < 128 → Kept (single_rows (single told n b)) → ((single told n b).cs ≡ false → least_for (shortest told.mapped) n ≡ n * (b / 16 % 8) + pairs n * (b % 8))
        → ((single told n b).cs ≡ true → least_for (shortest told.mapped) n ≡ vector_bytes (single told n b) + (n * (b / 16 % 8) + fewest (single told n b) 0 * (b % 8))) → SingleByte told n
    byte b h k full sparse =
        let f = single told n b in
        (b, h, near_kept (1 + least_for (shortest told.mapped) n) (single_rows f) (enter_values f (vector_bytes f)) k (values_nears f (1 + least_for (shortest told.mapped) n) (single_kept told n b g k) (λ e. omega (arith, full e)) (λ e. omega (arith, sparse e))))

    without : (mapped : Bool) → told.mapped ≡ mapped → least_for (shortest told.mapped) n ≡ n * shortest told.mapped → SingleByte told n
    without true m e = byte 0x10 (lit< tt) (refl, (rw m refl, (refl, (and-false (eqb n 1), (refl, tt))))) (λ x. e ∙ rw m (omega (arith, mul-zero (pairs n)))) (λ x. absurd (false≢true x))
    without false m e = byte 0x20 (lit< tt) (refl, (rw m refl, (refl, (and-false (eqb n 1), (refl, tt))))) (λ x. e ∙ rw m (omega (arith, mul-zero (pairs n)))) (λ x. absurd (false≢true x))

    none_allowed : (mapped : Bool) → not (allowed mapped 0) ≡ false
    none_allowed true = refl
    none_allowed false = refl

    many : (n ≡ 1 → ⊥) → least_for (shortest told.mapped) n ≡ min (n * shortest told.mapped) (min (pairs n) ((pairs n + 7) / 8 + 1)) → SingleByte told n
    many ne e =
        let one : eqb n 1 && true ≡ false = rw (ne_eqb n 1 ne) in
        let none = none_allowed told.mapped in
        either (ltb (n * shortest told.mapped) (min (pairs n) ((pairs n + 7) / 8 + 1))) (λ t. without told.mapped refl (omega (arith, ltb-true (n * shortest told.mapped) _ t)))
        (λ f. either (ltb (pairs n) ((pairs n + 7) / 8 + 1))
        (λ t. byte 0x01 (lit< tt) (refl, (none, (refl, (one, (refl, tt))))) (λ x. omega (arith, ltb-true (pairs n) _ t, ltb-false (n * shortest told.mapped) _ f, mul-zero n)) (λ x. absurd (false≢true x)))
        (λ s. byte 0x09 (lit< tt) (refl, (none, (refl, (one, (refl, tt))))) (λ x. absurd (false≢true (sym x))) (λ x. omega (arith, ltb-false (pairs n) _ s, ltb-false (n * shortest told.mapped) _ f, mul-zero n))))

nears_control1 : (told : Told) (n : ℕ) → (1 ≤ n) × (n ≤ 64) → Near (control1 told n)
nears_control1 told n g = either told.mode1 both (λ e. double (rw e refl))
  where
    double : least_behind told n ≡ 2 + least_for 1 n → Near (control1 told n)
    double e =
        let x = nears_double n in
        let t = mode_two told x.0 x.2 in
        (x.0, x.1, rw (e, t) x.3)

    single_byte : told.mode1 ≡ true → least_behind told n ≡ 1 + least_for (shortest told.mapped) n → Near (control1 told n)
    single_byte one e =
        let x = nears_single told n g in
        let t = mode_one told x.0 one (omega (arith, x.1)) in
        (x.0, omega (arith, x.1), rw (e, t) x.2)

    both : told.mode1 ≡ true → Near (control1 told n)
    both one =
        either (ltb (2 + least_for 1 n) (1 + least_for (shortest told.mapped) n))
        (λ t. double (rw one (omega (arith, ltb-true (2 + least_for 1 n) (1 + least_for (shortest told.mapped) n) t))))
        (λ t. single_byte one (rw one (omega (arith, ltb-false (2 + least_for 1 n) (1 + least_for (shortest told.mapped) n) t))))

-- ---- in the bit vector

pub sum_bits : (n b : ℕ) → sum (digits 2 n b) ≤ n
unfolding sum digits
sum_bits zero b = omega arith
sum_bits (suc n) b = rw (sum_append (digits 2 n (b / 2)) (b % 2 ∷ [])) (omega (arith, sum_bits n (b / 2)))

fewest_more : (f : Fields) (a b : ℕ) → a ≤ b → fewest f a ≤ fewest f b
fewest_more f a b h = omega arith

-- what the rules of the last vector byte leave: a coefficient, where there are no deviations
sent_kept : (f : Fields) (sent b : ℕ) → Kept (vector_rows f sent b) → fewest f sent ≡ sent
sent_kept f sent b k =
    by_eqb (λ (m : ℕ). max sent m ≡ sent) f.slen 0 1 0 (λ z. omega (arith, eqb-false sent 0 (and_right (eqb f.slen 0) (eqb sent 0) k.1.0 (eq-eqb f.slen 0 z)))) (λ z. omega arith)

pub vector_most : (f : Fields) → LawfulFields f → vector_bytes f * 8 ≤ 2016
vector_most f g = by_bit f.cs
  where
    by_bit : (t : Bool) → bit t * ((pairs f.n + 7) / 8) * 8 ≤ 2016
    by_bit true = omega (arith, pairs_most f.n g.first.size_most)
    by_bit false = omega arith

falls_vector : (f : Fields) (more sent b : ℕ) → GoodVector f more sent → Falls least Good (least (vector f more sent)) (step (vector f more sent) b)
falls_vector f (suc more) sent b g =
    let s = sent + sum (digits 2 8 b) in (
      record { fields = g.fields; sparse = g.sparse; within = omega (arith, g.within); counted = omega (arith, g.within, g.counted, sum_bits 8 b) },
      omega (arith, mul-le-mul_right f.clen (fewest_more f sent s (omega arith))),
    )
falls_vector f zero sent b g =
    let s = sent + sum (digits 2 8 b) in
    let n = least (vector f zero sent) in
    judged_by (Falls least Good n) (vector_rows f s b) (enter (words_of f s)) (λ r. tt)
    (λ k. enter_falls (words_of f s) n (words_good f s g.fields (omega (arith, g.within, g.counted, sum_bits 8 b, vector_most f g.fields)))
    (omega (arith, word_bytes f s g.fields, mul-le-mul_right f.clen (fewest_more f sent s (omega arith)), ap (λ (m : ℕ). m * f.clen) (sent_kept f s b k))))

-- the top bit of a byte is used, whatever the vector's end leaves unused
top_bit : (u : ℕ) → u ≤ 7 → 128 % 2 ^ u ≡ 0
top_bit u h = let e : u + (7 - u) ≡ 7 = omega arith in ap (λ (k : ℕ). 2 ^ k % 2 ^ u) (sym e) ∙ rw (pow-add 2 u (7 - u)) (mul-mod_right (2 ^ u) (2 ^ (7 - u)))

unused : (f : Fields) → f.cs ≡ true → vector_bytes f * 8 - pairs f.n ≤ 7
unused f e = rw e (omega arith)

last_byte : (f : Fields) (sent b : ℕ) → GoodVector f zero sent → b < 256 → Kept (vector_rows f (sent + sum (digits 2 8 b)) b) → fewest f sent ≡ sent + sum (digits 2 8 b) → Near (vector f zero sent)
last_byte f sent b g h k e =
    let s = sent + sum (digits 2 8 b) in
    let n = least (vector f zero sent) in (
      b,
      h,
      near_kept n (vector_rows f s b) (enter (words_of f s)) k
          (enter_nears (words_of f s) n (words_good f s g.fields (omega (arith, g.within, g.counted, sum_bits 8 b, vector_most f g.fields)))
          (omega (arith, word_bytes f s g.fields, ap (λ (m : ℕ). m * f.clen) e))),
    )

no_ones : sum (digits 2 8 0) ≡ 0
unfolding sum digits
no_ones = refl

top_one : sum (digits 2 8 128) ≡ 1
unfolding sum digits
top_one = refl

-- no further ones, but a first one at the vector's end where there is no other value
nears_vector : (f : Fields) (more sent : ℕ) → GoodVector f more sent → Near (vector f more sent)
nears_vector f (suc more) sent g = (0, lit< tt, rw (no_ones, add-zero sent) (omega arith))
nears_vector f zero sent g = either (eqb f.slen 0 && eqb sent 0) first_one no_more
  where
    first_one : eqb f.slen 0 && eqb sent 0 ≡ true → Near (vector f zero sent)
    first_one t =
        let b = (and-eq-true_iff (eqb f.slen 0) (eqb sent 0)).0 t in
        last_byte f sent 128 g (lit< tt)
        (rw (top_bit (vector_bytes f * 8 - pairs f.n) (unused f g.sparse)), (rw (top_one, ne_eqb (sent + 1) 0 (λ e. omega arith)) (and-false (eqb f.slen 0)), tt))
        (rw (top_one, b.0) (omega (arith, eqb-true sent 0 b.1)))

    no_more : eqb f.slen 0 && eqb sent 0 ≡ false → Near (vector f zero sent)
    no_more t =
        let k : Kept (vector_rows f sent 0) = (rw (zero-mod (2 ^ (vector_bytes f * 8 - pairs f.n))), (t, tt)) in
        last_byte f sent 0 g (lit< tt) (rw (no_ones, add-zero sent) k) (rw (no_ones, add-zero sent) (sent_kept f sent 0 k))

pub matrix_laws : Laws step least Good
matrix_laws = record { falls = falls; nears = nears }
  where
    falls : (s : State) → Good s → (b : ℕ) → b < 256 → Falls least Good (least s) (step s b)
    falls (size told) g b h = falls_size told b
    falls (control1 told n) g b h = falls_control1 told n b g
    falls (control2 f) g b h = falls_control2 f b g
    falls (vector f more sent) g b h = falls_vector f more sent b g
    falls (word more sign top run runs) g b h = falls_word more sign top b run runs g

    nears : (s : State) → Good s → Near s
    nears (size told) g = nears_size told
    nears (control1 told n) g = nears_control1 told n g
    nears (control2 f) g = nears_control2 f g
    nears (vector f more sent) g = nears_vector f more sent g
    nears (word more sign top run runs) g = nears_word more sign top run runs g
