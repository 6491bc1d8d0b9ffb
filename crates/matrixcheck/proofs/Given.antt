-- The rules of what is given are kept exactly where it has a lawful meaning. Assumes nothing.
use Prim.Native.Nat.{ℕ, ◌+◌, ◌≤◌, ◌<◌, min}
use mathlib.Core.Path.{◌≡◌, refl, ◌∙◌, sym, subst}
use mathlib.Core.Bool.{Bool, true, false, not, ◌&&◌, ◌||◌, cond, false≢true}
use mathlib.Core.List.{List, [], ◌∷◌, ◌++◌}
use native.Mathlib.Omega.{arith}
use borrow.Author.Tests.{eqb-true, eqb-false, ne_eqb, ltb-true, ltb-false, le-ltb, not-false}
use lib.Dec.{eqb, ltb}
use lib.ListN.{length, take, get_or, length-replicate, get_or-replicate, get_or-eq_default}
use lib.Seq.{length-take-le}
use Rattle.verdict.proofs.Cases.{either, and_right}
use Rattle.verdict.proofs.Deciding.{kept_both, both_kept}
use Rattle.verdict.proofs.Judging.{Kept}
use Rattle.rule.specs.Rules.{Keeps, rule_of_deviations, rule_of_coefficients}
use Rattle.matrix.specs.declared.Fields.{Fields}
use Rattle.matrix.specs.Meaning.{Matrix, pairs, sum, nought, LawfulFields, LawfulValues, Lawful, stating, Fits}
use Rattle.matrix.specs.Table.{formatted, field_rows}
use Rattle.matrix.proofs.FieldRules.{fields_lawful, fields_room, lawful_fields, formatted_same}
use Rattle.matrix.proofs.Keeping.{two_sizes}
use Rattle.matrix.proofs.Pairs.{pairs_some}
use Rattle.matrixcheck.specs.Given.{deviation_marks, meaning_given, marks_fit, sent_fit, formats_fit, format_row, disagree_rows, value_rows, given_rows}
use Rattle.matrixcheck.specs.Checking.{Enough}
use Rattle.matrixcheck.proofs.Entries.{length_sent, sent_at, marks_fitting, fitting_marks, mark_between, between_mark, sent_keeps, keeps_sent}

-- ---- the formats of the mode

-- in Mode 1 the formats that fit are mapped and as stated
formats_mapped : (one cf sf mapped : Bool) → not one || (cf && cond mapped sf (not sf)) ≡ true → one ≡ true → (cf ≡ true) × (sf ≡ mapped)
formats_mapped one false sf mapped e o = absurd (false≢true (subst (λ (t : Bool). not t || false ≡ true) o e))
formats_mapped one true true true e o = (refl, refl)
formats_mapped one true true false e o = absurd (false≢true (subst (λ (t : Bool). not t || false ≡ true) o e))
formats_mapped one true false true e o = absurd (false≢true (subst (λ (t : Bool). not t || false ≡ true) o e))
formats_mapped one true false false e o = (refl, refl)

mapped_formats : (one cf sf mapped : Bool) → (one ≡ true → (cf ≡ true) × (sf ≡ mapped)) → not one || (cf && cond mapped sf (not sf)) ≡ true
mapped_formats false cf sf mapped h = refl
mapped_formats true cf sf mapped h = let b = h refl in rw (b.0, b.1) (same mapped)
  where
    same : (mapped : Bool) → cond mapped mapped (not mapped) ≡ true
    same true = refl
    same false = refl

module _ (mapped : Bool) (f : Fields) where
  pub formats_same : formats_fit mapped f ≡ true → formatted mapped f ≡ f
  formats_same e =
      let b = formats_mapped f.mode1 f.cf f.sf mapped e in
      λ i. record { n = f.n; cs = f.cs; cf = coefficients b i; clen = f.clen; sf = deviations b i; slen = f.slen; mode1 = f.mode1 }
    where
      coefficients : (f.mode1 ≡ true → (f.cf ≡ true) × (f.sf ≡ mapped)) → f.mode1 || f.cf ≡ f.cf
      coefficients b = either f.mode1 (λ o. rw o (sym (b o).0)) (λ o. rw o)

      deviations : (f.mode1 ≡ true → (f.cf ≡ true) × (f.sf ≡ mapped)) → cond f.mode1 mapped f.sf ≡ f.sf
      deviations b = either f.mode1 (λ o. rw o (sym (b o).1)) (λ o. rw o)

  -- fields that keep their rules in the formats of the mode are lawful, and fit what was stated
  pub formats_lawful : formats_fit mapped f ≡ true → LawfulFields (formatted mapped f) → LawfulFields f
  formats_lawful e = subst LawfulFields (formats_same e)

  formats_fits : formats_fit mapped f ≡ true → Kept (field_rows mapped f) → Fits (stating mapped) f
  formats_fits e k one =
      let b = formats_mapped f.mode1 f.cf f.sf mapped e one in
      let room = fields_room mapped f k one in
      record { let_in = refl; coefficient_format = b.0; deviation_format = b.1; coefficient_room = room.0; deviation_room = room.1 }

  fits_formats : Fits (stating mapped) f → formats_fit mapped f ≡ true
  fits_formats fits = mapped_formats f.mode1 f.cf f.sf mapped (λ one. ((fits one).coefficient_format, (fits one).deviation_format))

  fits_fields : LawfulFields f → Fits (stating mapped) f → Kept (field_rows mapped f)
  fits_fields g fits = lawful_fields mapped f (subst LawfulFields (sym (formatted_same (stating mapped) f fits)) g) (λ one. ((fits one).coefficient_room, (fits one).deviation_room))

-- ---- the values

-- a list's sum is no less than its first entry
first_most : (xs : List ℕ) → get_or xs 0 0 ≤ sum xs
unfolding sum
first_most [] = omega arith
first_most (x ∷ xs) = omega arith

-- in no bytes the word 0 keeps its rule
zero_keeps : (mapped : Bool) → Keeps (rule_of_deviations mapped 0) 0
zero_keeps true = omega arith
zero_keeps false = omega arith

module _ (f : Fields) (deviations coefficients marks : List ℕ) where
  abbrev m : Matrix
  m = meaning_given f deviations coefficients marks

  abbrev pair_marks : List ℕ
  pair_marks = take (pairs f.n) marks

  -- the mark of a deviation
  deviation_mark_lem : (i : ℕ) → i < f.n → get_or (deviation_marks f) i 0 ≡ min 1 f.slen
  deviation_mark_lem i h = get_or-replicate {A = ℕ} f.n i (min 1 f.slen) 0 h

  pub deviation_here : (i : ℕ) → i < f.n → get_or m.deviations i 0 ≡ cond (eqb (min 1 f.slen) 0) 0 (get_or deviations i 0)
  deviation_here i h = sent_at 0 (deviation_marks f) deviations i (rw length-replicate h) ∙ rw (deviation_mark_lem i h)

  -- a mark past the last is 0
  mark_past : (i : ℕ) → length pair_marks ≤ i → get_or pair_marks i 0 ≡ 0
  mark_past i h = get_or-eq_default pair_marks 0 h

  -- a mark of 1 is within
  pub mark_within : (i : ℕ) → get_or pair_marks i 0 ≡ 1 → i < length pair_marks
  mark_within i e = either (ltb i (length pair_marks)) (λ t. ltb-true i (length pair_marks) t) (λ t. absurd (omega (arith, mark_past i (ltb-false i (length pair_marks) t))))

  module _ (g : LawfulFields f) (enough : Enough f deviations coefficients marks) where
    marks_count : length pair_marks ≡ pairs f.n
    marks_count = length-take-le (pairs f.n) marks enough.marks_enough

    module _ (fit : marks_fit f pair_marks ≡ true) where
      between : (i : ℕ) → i < length pair_marks → (cond f.cs 0 (min 1 f.clen) ≤ get_or pair_marks i 0) × (get_or pair_marks i 0 ≤ min 1 f.clen)
      between i h = mark_between f (get_or pair_marks i 0) (marks_fitting f pair_marks fit i h)

      marks_small : (i : ℕ) → get_or pair_marks i 0 ≤ 1
      marks_small i = either (ltb i (length pair_marks)) (λ t. omega (arith, (between i (ltb-true i (length pair_marks) t)).1)) (λ t. omega (arith, mark_past i (ltb-false i (length pair_marks) t)))

      marks_alike : f.cs ≡ false → (i : ℕ) → i < pairs f.n → get_or pair_marks i 0 ≡ min 1 f.clen
      marks_alike e i h =
          let b = between i (rw marks_count h) in
          let low : min 1 f.clen ≤ get_or pair_marks i 0 = subst (λ (t : Bool). cond t 0 (min 1 f.clen) ≤ get_or pair_marks i 0) e b.0 in
          omega (arith, b.1)

      -- a full pack without deviations has coefficients
      full_value : f.cs ≡ false → f.slen ≡ 0 → 0 < sum pair_marks
      full_value e z =
          let c : 0 < f.clen = omega (arith, g.some_length) in
          let two : 1 ≤ pairs f.n = pairs_some f.n (two_sizes f g.first c) in
          omega (arith, first_most pair_marks, marks_alike e 0 two)

      some_values : f.cs && (eqb f.slen 0 && eqb (sum pair_marks) 0) ≡ false → 0 < f.slen + sum pair_marks
      some_values e =
          either (eqb f.slen 0)
          (λ z. either f.cs
          (λ s. omega (arith, eqb-false (sum pair_marks) 0 (and_right (eqb f.slen 0) (eqb (sum pair_marks) 0) (and_right f.cs (eqb f.slen 0 && eqb (sum pair_marks) 0) e s) z)))
          (λ s. omega (arith, full_value s (eqb-true f.slen 0 z))))
          (λ z. omega (arith, eqb-false f.slen 0 z))

      module _ (devs : sent_fit (rule_of_deviations f.sf f.slen) (deviation_marks f) deviations ≡ true) where
        deviation_keeps : (i : ℕ) → i < f.n → Keeps (rule_of_deviations f.sf f.slen) (get_or m.deviations i 0)
        deviation_keeps i h =
            either (eqb f.slen 0)
            (λ z.
            let e : f.slen ≡ 0 = eqb-true f.slen 0 z in
            let word : get_or m.deviations i 0 ≡ 0 = deviation_here i h ∙ rw e in
            subst (Keeps (rule_of_deviations f.sf f.slen)) (sym word) (subst (λ (k : ℕ). Keeps (rule_of_deviations f.sf k) 0) (sym e) (zero_keeps f.sf)))
            (λ z.
            let some : min 1 f.slen ≡ 1 = omega (arith, eqb-false f.slen 0 z) in
            let word : get_or m.deviations i 0 ≡ get_or deviations i 0 = deviation_here i h ∙ rw some in
            subst (Keeps (rule_of_deviations f.sf f.slen)) (sym word)
            (sent_keeps (rule_of_deviations f.sf f.slen) (deviation_marks f) deviations devs i (rw length-replicate h) (λ zero. omega (arith, deviation_mark_lem i h))))

      module _ (coefs : sent_fit (rule_of_coefficients f.cf f.clen) pair_marks coefficients ≡ true) where
        coefficient_keeps : (i : ℕ) → get_or pair_marks i 0 ≡ 1 → Keeps (rule_of_coefficients f.cf f.clen) (get_or m.coefficients i 0)
        coefficient_keeps i e =
            let h = mark_within i e in
            let word : get_or m.coefficients i 0 ≡ get_or coefficients i 0 = sent_at (nought f) pair_marks coefficients i h ∙ rw e in
            subst (Keeps (rule_of_coefficients f.cf f.clen)) (sym word)
            (sent_keeps (rule_of_coefficients f.cf f.clen) pair_marks coefficients coefs i h (λ zero. omega arith))

  enough_given : Kept (disagree_rows f deviations coefficients marks) → Enough f deviations coefficients marks
  enough_given k =
      record {
        deviations_enough = ltb-false (length deviations) f.n k.0;
        coefficients_enough = ltb-false (length coefficients) (pairs f.n) k.1.0;
        marks_enough = ltb-false (length marks) (pairs f.n) k.1.1.0;
      }

  pub given_lawful : (mapped : Bool) → Kept (given_rows mapped f deviations coefficients marks) → Enough f deviations coefficients marks × Lawful m × Fits (stating mapped) f
  given_lawful mapped k =
      let a = both_kept (field_rows mapped f) (format_row mapped f ∷ (disagree_rows f deviations coefficients marks ++ value_rows f deviations coefficients marks)) k in
      let formats = not-false (formats_fit mapped f) a.1.0 in
      let b = both_kept (disagree_rows f deviations coefficients marks) (value_rows f deviations coefficients marks) a.1.1 in
      let g = formats_lawful mapped f formats (fields_lawful mapped f a.0) in
      let enough = enough_given b.0 in
      let fit = not-false (marks_fit f pair_marks) b.0.1.1.1.0 in
      let devs = not-false (sent_fit (rule_of_deviations f.sf f.slen) (deviation_marks f) deviations) b.1.1.0 in
      let coefs = not-false (sent_fit (rule_of_coefficients f.cf f.clen) pair_marks coefficients) b.1.1.1.0 in (
        enough,
        record {
          fields = g;
          values =
              record {
                deviation_count = length_sent 0 (deviation_marks f) deviations ∙ length-replicate f.n (min 1 f.slen);
                mark_count = marks_count g enough;
                coefficient_count = length_sent (nought f) pair_marks coefficients ∙ marks_count g enough;
                deviation_rule = deviation_keeps g enough fit devs;
                mark_rule = marks_small g enough fit;
                all_sent = marks_alike g enough fit;
                coefficient_rule = coefficient_keeps g enough fit coefs;
                not_sent = λ i h e. sent_at (nought f) pair_marks coefficients i (rw (marks_count g enough) h) ∙ rw e;
                some_value = some_values g enough fit b.1.0;
              };
        },
        formats_fits mapped f formats a.0,
      )

  -- ---- and back

  module _ (l : Lawful m) where
    abbrev g : LawfulFields f
    g = l.fields

    abbrev v : LawfulValues m
    v = l.values

    -- a mark is no more than coefficients with bytes have
    mark_most : (i : ℕ) → i < pairs f.n → get_or pair_marks i 0 ≤ min 1 f.clen
    mark_most i h =
        either f.cs (λ s. omega (arith, g.first.sparse s, v.mark_rule i)) (λ s. omega (arith, v.all_sent s i h))

    mark_least : (i : ℕ) → i < pairs f.n → cond f.cs 0 (min 1 f.clen) ≤ get_or pair_marks i 0
    mark_least i h =
        either f.cs (λ s. rw s (omega arith)) (λ s. rw s (omega (arith, v.all_sent s i h)))

    lawful_marks : marks_fit f pair_marks ≡ true
    lawful_marks = fitting_marks f pair_marks (λ i h. let w : i < pairs f.n = rw (← v.mark_count) h in between_mark f (get_or pair_marks i 0) (mark_least i w) (mark_most i w))

    lawful_deviations : sent_fit (rule_of_deviations f.sf f.slen) (deviation_marks f) deviations ≡ true
    lawful_deviations =
        keeps_sent (rule_of_deviations f.sf f.slen) (deviation_marks f) deviations
        (λ i h ne.
        let w : i < f.n = rw (← length-replicate f.n (min 1 f.slen)) h in
        let some : min 1 f.slen ≡ 1 = either (eqb (min 1 f.slen) 0) (λ z. absurd (ne (deviation_mark_lem i w ∙ eqb-true (min 1 f.slen) 0 z))) (λ z. omega (arith, eqb-false (min 1 f.slen) 0 z)) in
        subst (Keeps (rule_of_deviations f.sf f.slen)) (deviation_here i w ∙ rw some) (v.deviation_rule i w))

    lawful_coefficients : sent_fit (rule_of_coefficients f.cf f.clen) pair_marks coefficients ≡ true
    lawful_coefficients =
        keeps_sent (rule_of_coefficients f.cf f.clen) pair_marks coefficients
        (λ i h ne.
        let one : get_or pair_marks i 0 ≡ 1 = omega (arith, v.mark_rule i) in
        subst (Keeps (rule_of_coefficients f.cf f.clen)) (sent_at (nought f) pair_marks coefficients i h ∙ rw one) (v.coefficient_rule i one))

    not_empty : f.cs && (eqb f.slen 0 && eqb (sum pair_marks) 0) ≡ false
    not_empty =
        either f.cs
        (λ s. rw s (either (eqb f.slen 0) (λ z. rw (z, ne_eqb (sum pair_marks) 0 (λ y. omega (arith, v.some_value, eqb-true f.slen 0 z)))) (λ z. rw z)))
        (λ s. rw s)

    pub lawful_given : (mapped : Bool) → Fits (stating mapped) f → Enough f deviations coefficients marks → Kept (given_rows mapped f deviations coefficients marks)
    lawful_given mapped fits enough =
        kept_both (field_rows mapped f) (format_row mapped f ∷ (disagree_rows f deviations coefficients marks ++ value_rows f deviations coefficients marks)) (fits_fields mapped f g fits) (
          rw (fits_formats mapped f fits),
          kept_both (disagree_rows f deviations coefficients marks) (value_rows f deviations coefficients marks)
              (le-ltb (length deviations) f.n enough.deviations_enough, (le-ltb (length coefficients) (pairs f.n) enough.coefficients_enough, (le-ltb (length marks) (pairs f.n) enough.marks_enough, (rw lawful_marks, tt))))
              (not_empty, (rw lawful_deviations, (rw lawful_coefficients, tt))),
        )
