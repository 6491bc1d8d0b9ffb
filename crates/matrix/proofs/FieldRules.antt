-- The rules of the fields are kept exactly where the fields are lawful. Assumes nothing.
use Prim.Native.Nat.{ℕ, ◌≤◌}
use mathlib.Core.Path.{◌≡◌, ap, ◌∙◌}
use mathlib.Core.Bool.{Bool, ◌&&◌, ◌||◌, true, false, cond, and-false}
use mathlib.Core.List.{List, ◌∷◌}
use native.Mathlib.Omega.{arith}
use borrow.Author.Tests.{eqb-true, eqb-false, eq-eqb, ne_eqb, ltb-false, le-ltb, not-false}
use lib.Dec.{eqb, ltb}
use Rattle.verdict.proofs.Cases.{either, and_right}
use Rattle.verdict.proofs.Deciding.{kept_both, both_kept}
use Rattle.verdict.proofs.Judging.{Kept}
use Rattle.verdict.specs.Rows.{Row}
use Rattle.rule.specs.Rules.{allowed}
use Rattle.matrix.specs.declared.Fields.{Fields}
use Rattle.matrix.specs.declared.Told.{Told}
use Rattle.matrix.specs.Meaning.{alone, LawfulFirst, LawfulFields, Fits}
use Rattle.matrix.specs.Table.{single_rows, coefficient_rows, deviation_rows, room_row, formatted, field_rows}

module _ (f : Fields) where
  pub coefficients_lawful : 1 ≤ f.n → f.n ≤ 64 → Kept (coefficient_rows f) → LawfulFirst f
  coefficients_lawful h g k =
      record {
        size_least = h;
        size_most = g;
        coefficient_length = not-false (allowed f.cf f.clen) k.0;
        coefficient_flag = k.1.0;
        sparse = λ e. omega (arith, eqb-false f.clen 0 (and_right f.cs (eqb f.clen 0) k.1.1.0 e));
        size_one = λ e. omega (arith, ltb-false 0 f.clen (and_right (eqb f.n 1) (ltb 0 f.clen) k.1.1.1.0 (eq-eqb f.n 1 e)));
      }

  pub lawful_coefficients : LawfulFirst f → Kept (coefficient_rows f)
  lawful_coefficients g =
      let sparse : f.cs && eqb f.clen 0 ≡ false = either f.cs (λ e. rw (e, ne_eqb f.clen 0 (λ z. omega (arith, g.sparse e)))) (λ e. rw e) in
      let one : eqb f.n 1 && ltb 0 f.clen ≡ false = either (eqb f.n 1) (λ e. rw (e, le-ltb 0 f.clen (omega (arith, g.size_one (eqb-true f.n 1 e))))) (λ e. rw e) in
      (rw g.coefficient_length, (g.coefficient_flag, (sparse, (one, tt))))

  pub deviations_lawful : LawfulFirst f → Kept (deviation_rows f) → LawfulFields f
  deviations_lawful g k =
      record {
        first = g;
        deviation_length = not-false (allowed f.sf f.slen) k.0;
        deviation_flag = k.1.0;
        some_length = either (eqb f.slen 0) (λ e. omega (arith, eqb-false f.clen 0 (and_right (eqb f.slen 0) (eqb f.clen 0) k.1.1.0 e))) (λ e. omega (arith, eqb-false f.slen 0 e));
      }

  pub lawful_deviations : LawfulFields f → Kept (deviation_rows f)
  lawful_deviations g =
      (rw g.deviation_length, (g.deviation_flag, (either (eqb f.slen 0) (λ e. rw (e, ne_eqb f.clen 0 (λ z. omega (arith, g.some_length, eqb-true f.slen 0 e)))) (λ e. rw e), tt)))

  -- Mode 1 has no flags that could stand alone
  pub never_alone : f.mode1 ≡ true → (mapped : Bool) (length : ℕ) → alone f.mode1 mapped length ≡ false
  never_alone e mapped length = ap (λ (one : Bool). alone one mapped length) e ∙ and-false (mapped && eqb length 0)

  -- its control byte has the other rules of both
  pub single_lawful : f.mode1 ≡ true → 1 ≤ f.n → f.n ≤ 64 → Kept (single_rows f) → LawfulFields f
  single_lawful e h g k =
      deviations_lawful (coefficients_lawful h g (k.0, (never_alone e f.cf f.clen, (k.1.1.0, (k.1.1.1.0, tt))))) (k.1.0, (never_alone e f.sf f.slen, k.1.1.1.1))

  pub lawful_single : LawfulFields f → Kept (single_rows f)
  lawful_single g =
      let c = lawful_coefficients g.first in
      let d = lawful_deviations g in
      (c.0, (d.0, (c.1.1.0, (c.1.1.1.0, d.1.1))))

-- the rules of fields that are given, in the formats that they are judged by
module _ (mapped : Bool) (f : Fields) where
  abbrev coefficients : List Row
  coefficients = coefficient_rows (formatted mapped f)

  abbrev deviations : List Row
  deviations = deviation_rows (formatted mapped f)

  pub fields_lawful : Kept (field_rows mapped f) → LawfulFields (formatted mapped f)
  fields_lawful k =
      let both = both_kept (room_row f f.clen ∷ coefficients) (room_row f f.slen ∷ deviations) k.1.1 in
      deviations_lawful (formatted mapped f) (coefficients_lawful (formatted mapped f) (omega (arith, eqb-false f.n 0 k.0)) (ltb-false 64 f.n k.1.0) both.0.1) both.1.1

  -- and lengths that Mode 1 has room for
  pub fields_room : Kept (field_rows mapped f) → f.mode1 ≡ true → (f.clen ≤ 7) × (f.slen ≤ 7)
  fields_room k e =
      let both = both_kept (room_row f f.clen ∷ coefficients) (room_row f f.slen ∷ deviations) k.1.1 in
      (ltb-false 7 f.clen (and_right f.mode1 (ltb 7 f.clen) both.0.0 e), ltb-false 7 f.slen (and_right f.mode1 (ltb 7 f.slen) both.1.0 e))

  pub lawful_fields : LawfulFields (formatted mapped f) → (f.mode1 ≡ true → (f.clen ≤ 7) × (f.slen ≤ 7)) → Kept (field_rows mapped f)
  lawful_fields g room = (
    ne_eqb f.n 0 (λ e. omega (arith, g.first.size_least)),
    (
      le-ltb 64 f.n g.first.size_most,
      kept_both (room_row f f.clen ∷ coefficients) (room_row f f.slen ∷ deviations)
          (kept_room f.clen (λ e. (room e).0), lawful_coefficients (formatted mapped f) g.first)
          (kept_room f.slen (λ e. (room e).1), lawful_deviations (formatted mapped f) g),
    ),
  )
    where
      kept_room : (length : ℕ) → (f.mode1 ≡ true → length ≤ 7) → f.mode1 && ltb 7 length ≡ false
      kept_room length h = either f.mode1 (λ e. rw (e, le-ltb 7 length (h e))) (λ e. rw e)

-- fields that Mode 1 allows are in the formats that they are judged by; Mode 2 has none of its own
pub formatted_same : (told : Told) (f : Fields) → Fits told f → formatted told.mapped f ≡ f
formatted_same told f fits =
    either f.mode1
    (λ e. let m = fits e in
    λ i. record { n = f.n; cs = f.cs; cf = mapped_same e m.coefficient_format i; clen = f.clen; sf = stated_same e m.deviation_format i; slen = f.slen; mode1 = f.mode1 })
    (λ e. λ i. record { n = f.n; cs = f.cs; cf = other_same e i; clen = f.clen; sf = own_same e i; slen = f.slen; mode1 = f.mode1 })
  where
    mapped_same : f.mode1 ≡ true → f.cf ≡ true → f.mode1 || f.cf ≡ f.cf
    mapped_same e c = rw (e, c)

    stated_same : f.mode1 ≡ true → f.sf ≡ told.mapped → cond f.mode1 told.mapped f.sf ≡ f.sf
    stated_same e s = rw (e, s)

    other_same : f.mode1 ≡ false → f.mode1 || f.cf ≡ f.cf
    other_same e = rw e

    own_same : f.mode1 ≡ false → cond f.mode1 told.mapped f.sf ≡ f.sf
    own_same e = rw e
