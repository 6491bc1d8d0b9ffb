-- The machine of matrix packs gives the reasons of document 01's table. Assumes nothing.
use Prim.Native.Nat.{ℕ, zero, suc, ◌+◌, ◌-◌, ◌/◌, ◌^◌, ◌<◌, ◌≤◌}
use mathlib.Core.Path.{◌≡◌, refl, sym, ap, ◌∙◌, subst}
use mathlib.Core.Bool.{Bool, true, false, ◌&&◌, cond}
use mathlib.Core.Logic.{◌⊎◌, inl, inr, ⊎_elim}
use mathlib.Core.List.{List, [], ◌∷◌}
use native.Mathlib.Nat.{zero-add}
use native.Mathlib.Omega.{arith}
use borrow.Author.Tests.{le-ltb, ne_eqb, eq-eqb}
use lib.Dec.{eqb, ltb}
use lib.ListN.{length, take, get_or}
use Rattle.verdict.specs.Rows.{Row, Blamed}
use Rattle.verdict.proofs.Judging.{Leads, judged_leads, one_blamed, Kept}
use Rattle.verdict.specs.declared.Reason.{Reason}
use Rattle.verdict.specs.declared.Reason.TheVariants.{Empty, ValueRange}
use Rattle.verdict.specs.Says.{OneReason}
use Rattle.verdict.specs.Machine.{Move, on, done, Blames}
use Rattle.rule.specs.Rules.{cleared}
use Rattle.word.specs.Digits.{digits}
use Rattle.matrix.specs.declared.Fields.{Fields}
use Rattle.matrix.specs.declared.Told.{Told}
use Rattle.matrix.specs.Meaning.{pairs, sum, LawfulFirst, LawfulFields}
use Rattle.matrix.specs.Header.{bits, first, second, single, in_mode1, vector_bytes}
use Rattle.matrix.specs.Table.{size_rows, single_rows, control1_rows, control2_rows, vector_rows, word_rows, value_rows, single_rows_of, double_rows_of, rows_of, Why}
use Rattle.matrix.proofs.Accepting.{sum_more, sum_last, vector_zeros}
use Rattle.matrix.proofs.BitVector.{sum_first}
use Rattle.matrix.proofs.ControlBytes.{size_kept}
use Rattle.matrix.proofs.Keeping.{first_kept, second_kept, single_kept, values_by, vector_none, vector_some}
use Rattle.matrix.specs.Machine.{State, size, control1, control2, vector, word, Run, enter, enter_run, enter_word, in_word, rest_of, enter_values, words_of, all_sent_count, in_single, in_first, step}

-- the table gives at most one reason
pub one_reason : (told : Told) → OneReason (Why told)
one_reason told w = one_blamed (rows_of told w)

-- ---- in words

-- into words, or done
pub enter_word_lem : (P : Move State → Type 0) → P done → ((more sign top : ℕ) (run : Run) (runs : List Run) → P (on (word more sign top run runs))) → (runs : List Run) → P (enter runs)
unfolding enter
enter_word_lem P d f [] = d
enter_word_lem P d f (run ∷ runs) = many run.count (enter_word_lem P d f runs)
  where
    one : (l count : ℕ) → P (enter runs) → P (enter_word l run.rule count runs (enter runs))
    one zero count p = p
    one (suc more) count p = f more _ _ _ _

    many : (count : ℕ) → P (enter runs) → P (enter_run run.rule count runs (enter runs))
    many zero p = p
    many (suc count) p = one run.rule.length count p

words_lead : (w : List ℕ) (r : Reason) (runs : List Run) → ((more sign top : ℕ) (run : Run) (runs : List Run) → Blames step (word more sign top run runs) w r → ValueRange ≡ r) → Leads step w r (enter runs) → ValueRange ≡ r
words_lead w r runs ih = enter_word_lem (λ move. Leads step w r move → ValueRange ≡ r) (λ x. absurd x) ih runs

word_blamed : (t : Bool) (r : Reason) → Blamed (word_rows t) r → ValueRange ≡ r
unfolding Blamed
word_blamed true r x = x
word_blamed false r x = absurd x

-- the only reason in a word is 11
word_blames : (w : List ℕ) (r : Reason) (more sign top : ℕ) (run : Run) (runs : List Run) → Blames step (word more sign top run runs) w r → ValueRange ≡ r
unfolding Blames
word_blames [] r more sign top run runs x = absurd x
word_blames (b ∷ w) r more sign top run runs x =
    ⊎_elim (λ y. word_blamed (ltb (top / 256 ^ more) (cleared sign b)) r y.1) (λ y. behind more (rest_of more top (cleared sign b)) (λ m s t u v. word_blames w r m s t u v) y.1)
    (judged_leads step (word_rows (ltb (top / 256 ^ more) (cleared sign b))) (in_word more (rest_of more top (cleared sign b)) run runs) w r x)
  where
    behind : (more top : ℕ) → ((more sign top : ℕ) (run : Run) (runs : List Run) → Blames step (word more sign top run runs) w r → ValueRange ≡ r) → Leads step w r (in_word more top run runs) → ValueRange ≡ r
    behind zero top ih = words_lead w r (run ∷ runs) ih
    behind (suc more) top ih = ih more 0 top run runs

-- nothing is refused behind no byte
leads_some : (w : List ℕ) (r : Reason) (runs : List Run) → Leads step w r (enter runs) → 0 < length w
unfolding Blames
leads_some [] r runs x = absurd (enter_word_lem (λ move. Leads step [] r move → ⊥) (λ y. y) (λ more sign top run rest y. y) runs x)
leads_some (b ∷ w) r runs x = omega arith

-- ---- in the bit vector and behind it

-- behind a whole vector, or at its end
vector_blames : (f : Fields) (more sent : ℕ) (w : List ℕ) (r : Reason) → Blames step (vector f more sent) w r
    → ((suc more < length w) × (ValueRange ≡ r)) ⊎ ((length w ≡ suc more) × Blamed (vector_rows f (sent + sum (bits w)) (get_or w more 0)) r)
unfolding Blames
vector_blames f more sent [] r x = absurd x
vector_blames f zero sent (b ∷ w) r x =
    ⊎_elim
    (λ y. inr (ap (λ (l : List ℕ). suc (length l)) y.0, subst (λ (l : List ℕ). Blamed (vector_rows f (sent + sum (bits (b ∷ l))) b) r) (sym y.0) (rw (sum_last sent b) y.1)))
    (λ y. inl (omega (arith, leads_some w r (words_of f (sent + sum (digits 2 8 b))) y.1), words_lead w r (words_of f (sent + sum (digits 2 8 b))) (word_blames w r) y.1))
    (judged_leads step (vector_rows f (sent + sum (digits 2 8 b)) b) (enter (words_of f (sent + sum (digits 2 8 b)))) w r x)
vector_blames f (suc more) sent (b ∷ w) r x =
    ⊎_elim (λ y. inl (omega arith, y.1)) (λ y. inr (ap suc y.0, subst (λ (s : ℕ). Blamed (vector_rows f s (get_or w more 0)) r) (sym (sum_more sent b w)) y.1))
    (vector_blames f more (sent + sum (digits 2 8 b)) w r x)

-- rows that give the same reason where a first rule is kept, give it behind that rule
behind_kept : (row : Row) (rows others : List Row) (r : Reason) → (row.broken ≡ false → Blamed rows r → Blamed others r) → Blamed (row ∷ rows) r → Blamed (row ∷ others) r
unfolding Blamed
behind_kept row rows others r = go row.broken
  where
    go : (t : Bool) → (t ≡ false → Blamed rows r → Blamed others r) → cond t (row.reason ≡ r) (Blamed rows r) → cond t (row.reason ≡ r) (Blamed others r)
    go true f x = x
    go false f x = f refl x

-- the ones of all bits and those of the M bits give the same reason
first_bits : (f : Fields) → LawfulFirst f → f.cs ≡ true → (w : List ℕ) (r : Reason) → length w ≡ suc (vector_bytes f - 1)
    → Blamed (vector_rows f (sum (bits w)) (get_or w (vector_bytes f - 1) 0)) r → Blamed (vector_rows f (sum (take (pairs f.n) (bits w))) (get_or w (vector_bytes f - 1) 0)) r
first_bits f g e w r l =
    behind_kept _ _ _ r (λ kept. subst (λ (s : ℕ). Blamed (record { broken = eqb f.slen 0 && eqb s 0; reason = Empty } ∷ []) r) (sym (sum_first (pairs f.n) (bits w) (vector_zeros f g e w l kept))))

values_blame : (f : Fields) → LawfulFields f → (w : List ℕ) (r : Reason) → Leads step w r (enter_values f (vector_bytes f)) → (0 < length w) × Blamed (value_rows f w) r
unfolding Blamed
values_blame f g w r =
    values_by (λ move. Leads step w r move → (0 < length w) × Blamed (value_rows f w) r) f g.first
    (λ e x. let some = leads_some w r (words_of f (all_sent_count f)) x in
    (some, rw (vector_none f e, le-ltb (length w) 0 (omega arith), ne_eqb (length w) 0 (λ z. omega arith)) (words_lead w r (words_of f (all_sent_count f)) (word_blames w r) x)))
    (λ e x. let v = vector_some f g.first e in
    ⊎_elim (λ y. (omega (arith, y.0), rw (le-ltb (length w) (vector_bytes f) (omega (arith, y.0)), ne_eqb (length w) (vector_bytes f) (λ z. omega (arith, y.0))) y.1))
    (λ y. let l : length w ≡ vector_bytes f = y.0 ∙ sym v in
    (omega (arith, y.0), rw (le-ltb (length w) (vector_bytes f) (omega arith), eq-eqb (length w) (vector_bytes f) l) (first_bits f g.first e w r y.0 (rw zero-add at y.1))))
    (vector_blames f (vector_bytes f - 1) 0 w r x))

-- ---- the table

not_nil : {b : ℕ} {w : List ℕ} → b ∷ w ≡ [] → ⊥
not_nil e = let n : ◌≡◌ {A = ℕ} (suc _) 0 = ap length e in omega arith

-- behind the header some byte is refused, by its rules
values_why : (f : Fields) → LawfulFields f → (P : List ℕ → Type 0) (w : List ℕ) (r : Reason) → ((b : ℕ) (v : List ℕ) → Blamed (value_rows f (b ∷ v)) r → P (b ∷ v)) → Leads step w r (enter_values f (vector_bytes f)) → P w
values_why f g P [] r h x = absurd (let s = values_blame f g [] r x in omega (arith, s.0))
values_why f g P (b ∷ w) r h x = h b w (values_blame f g (b ∷ w) r x).1

module _ (told : Told) (n c : ℕ) (r : Reason) (s : (1 ≤ n) × (n ≤ 64)) where
  single_why : (w : List ℕ) → Leads step w r (in_single (single told n c)) → Blamed (single_rows_of (single told n c) w) r
  single_why w x =
      let f = single told n c in
      ⊎_elim (λ y. subst (λ (l : List ℕ). Blamed (single_rows_of f l) r) (sym y.0) y.1)
      (λ y. values_why f (single_kept told n c s y.0) (λ (l : List ℕ). Blamed (single_rows_of f l) r) w r (λ b v z. z) y.1)
      (judged_leads step (single_rows f) (enter_values f (vector_bytes f)) w r x)

  second_why : Kept (control1_rows (first n c) c) → (d : ℕ) (w : List ℕ) → Leads step w r (step (control2 (first n c)) d) → Blamed (double_rows_of (first n c) c (d ∷ w)) r
  second_why k d w x =
      let f = second (first n c) d in
      ⊎_elim (λ y. subst (λ (l : List ℕ). Blamed (double_rows_of (first n c) c (d ∷ l)) r) (sym y.0) y.1)
      (λ y. values_why f (second_kept (first n c) d (first_kept n c s.0 s.1 k) y.0) (λ (l : List ℕ). Blamed (double_rows_of (first n c) c (d ∷ l)) r) w r (λ b v z. z) y.1)
      (judged_leads step (control2_rows f d) (enter_values f (vector_bytes (first n c))) w r x)

  double_why : (w : List ℕ) → Leads step w r (in_first (first n c) c) → Blamed (double_rows_of (first n c) c w) r
  unfolding Blames
  double_why [] x = ⊎_elim (λ z. z.1) (λ z. absurd z.1) (judged_leads step (control1_rows (first n c) c) (on (control2 (first n c))) [] r x)
  double_why (d ∷ w) x = ⊎_elim (λ z. absurd (not_nil z.0)) (λ z. second_why z.0 d w z.1) (judged_leads step (control1_rows (first n c) c) (on (control2 (first n c))) (d ∷ w) r x)

  control_why : (w : List ℕ) → Leads step w r (step (control1 told n) c) → Why told (n ∷ c ∷ w) r
  control_why w = go (in_mode1 told c)
    where
      go : (t : Bool) → Leads step w r (cond t (in_single (single told n c)) (in_first (first n c) c)) → Blamed (cond t (single_rows_of (single told n c) w) (double_rows_of (first n c) c w)) r
      go true x = single_why w x
      go false x = double_why w x

pub blames_why : (told : Told) (w : List ℕ) (r : Reason) → Blames step (size told) w r → Why told w r
unfolding Blames
blames_why told [] r x = absurd x
blames_why told (n ∷ []) r x = ⊎_elim (λ y. y.1) (λ y. absurd y.1) (judged_leads step (size_rows n) (on (control1 told n)) [] r x)
blames_why told (n ∷ c ∷ w) r x =
    ⊎_elim (λ y. absurd (not_nil y.0)) (λ y. control_why told n c r (size_kept n y.0) w y.1) (judged_leads step (size_rows n) (on (control1 told n)) (c ∷ w) r x)
