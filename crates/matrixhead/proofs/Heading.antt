-- The header's bytes against the run: from each state, where a rule is broken and where none is. Assumes nothing.
use Prim.Native.Nat.{ℕ, ◌/◌, ◌≤◌, ◌<◌}
use mathlib.Core.Path.{◌≡◌, refl, sym, ap, ◌∙◌}
use mathlib.Core.Bool.{true, false}
use mathlib.Core.List.{List}
use native.Mathlib.Omega.{arith}
use borrow.Author.Tests.{eq-eqb}
use lib.ListN.{length, get_or}
use Rattle.verdict.specs.Rows.{judged}
use Rattle.verdict.specs.declared.Reason.{Reason}
use Rattle.verdict.specs.declared.Reason.TheVariants.{Mode}
use Rattle.verdict.specs.declared.Verdict.TheVariants.{Refused}
use Rattle.verdict.specs.Machine.{on}
use Rattle.verdict.proofs.Reaching.{reach_start, reach_step}
use Rattle.matrix.specs.declared.Fields.{Fields}
use Rattle.matrix.specs.declared.Told.{Told}
use Rattle.std.specs.Prelude.{Ok, Err}
use Rattle.matrix.specs.Meaning.{LawfulFirst}
use Rattle.matrix.specs.Header.{header_bytes, vector_bytes, first, second, single, in_mode1, fields_in}
use Rattle.matrix.specs.Table.{size_rows, single_rows, control1_rows, control2_rows}
use Rattle.verdict.specs.Judgement.{judgement}
use Rattle.matrix.specs.Machine.{size, control1, control2, enter_values, in_single, in_first, step, least, verdict_of}
use Rattle.matrix.specs.Reached.{verdict_at, verdict_behind}
use Rattle.matrixhead.specs.Parts.{Headed}
use Rattle.matrix.proofs.Header.{header_one, header_two, fields_single, fields_double}
use Rattle.matrix.proofs.FieldRules.{coefficients_lawful, single_lawful}
use Rattle.matrix.proofs.ControlBytes.{mode_shut}
use Rattle.matrix.proofs.Keeping.{second_kept}
use Rattle.verdict.proofs.Deciding.{judgement_kept}
use Rattle.matrix.proofs.Judgements.{behind_on, behind_kept, behind_broken}

module _ (told : Told) (bytes : List ℕ) (n : ℕ) (here : 0 < length bytes) (read : n ≡ get_or bytes 0 0) where
  size_step : verdict_of told bytes ≡ verdict_behind (judged (size_rows n) (on (control1 told n))) bytes 1
  size_step = rw read (sym (reach_start step least bytes (size told)) ∙ reach_step step least bytes (size told) 0 here)

  pub size_broken : (reason : Reason) → judgement (size_rows n) ≡ Err reason → verdict_of told bytes ≡ Refused (record { reason = reason; place = 0 })
  size_broken reason e = size_step ∙ behind_broken (size_rows n) (on (control1 told n)) bytes 1 reason e

  pub size_next : judgement (size_rows n) ≡ Ok tt → verdict_of told bytes ≡ verdict_at (control1 told n) bytes 1
  size_next e = size_step ∙ behind_kept (size_rows n) (on (control1 told n)) bytes 1 e ∙ behind_on (control1 told n) bytes 1

-- the byte behind the size is of either mode
module _ (told : Told) (bytes : List ℕ) (n c : ℕ) (here : 1 < length bytes) (read : c ≡ get_or bytes 1 0) where
  pub single_step : in_mode1 told c ≡ true → verdict_at (control1 told n) bytes 1 ≡ verdict_behind (in_single (single told n c)) bytes 2
  single_step t = reach_step step least bytes (control1 told n) 1 here ∙ ap (λ (b : ℕ). verdict_behind (step (control1 told n) b) bytes 2) (sym read) ∙ rw t refl

  pub first_step : in_mode1 told c ≡ false → verdict_at (control1 told n) bytes 1 ≡ verdict_behind (in_first (first n c) c) bytes 2
  first_step t = reach_step step least bytes (control1 told n) 1 here ∙ ap (λ (b : ℕ). verdict_behind (step (control1 told n) b) bytes 2) (sym read) ∙ rw t refl

  pub single_fields : (d : ℕ) → in_mode1 told c ≡ true → single told n c ≡ fields_in told n (get_or bytes 1 0) d
  single_fields d t = sym (fields_single told n c d t) ∙ ap (λ (b : ℕ). fields_in told n b d) read

  pub first_fields : (d : ℕ) → in_mode1 told c ≡ false → second (first n c) d ≡ fields_in told n (get_or bytes 1 0) d
  first_fields d t = sym (fields_double told n c d t) ∙ ap (λ (b : ℕ). fields_in told n b d) read

  -- without its top bit the byte is refused where Mode 1 is not let in
  pub low_refused : told.mode1 ≡ false → c / 128 ≡ 0 → verdict_at (control1 told n) bytes 1 ≡ Refused (record { reason = Mode; place = 1 })
  low_refused shut top =
      let f = first n c in
      first_step (mode_shut told c shut) ∙ behind_broken (control1_rows f c) (on (control2 f)) bytes 2 Mode (rw (eq-eqb (c / 128) 0 top) refl)

-- Mode 1's control byte
module _ (bytes : List ℕ) (f : Fields) (here : 2 ≤ length bytes) (one : f.mode1 ≡ true) where
  pub single_broken : (reason : Reason) → judgement (single_rows f) ≡ Err reason → verdict_behind (in_single f) bytes 2 ≡ Refused (record { reason = reason; place = 1 })
  single_broken reason e = behind_broken (single_rows f) (enter_values f (vector_bytes f)) bytes 2 reason e

  pub single_headed : 1 ≤ f.n → f.n ≤ 64 → judgement (single_rows f) ≡ Ok tt → Headed (verdict_behind (in_single f) bytes 2) f bytes f
  single_headed h l e =
      record {
        same = refl;
        lawful = single_lawful f one h l (judgement_kept (single_rows f) e);
        within = omega (arith, header_one f one);
        leads = behind_kept (single_rows f) (enter_values f (vector_bytes f)) bytes 2 e ∙ ap (verdict_behind (enter_values f (vector_bytes f)) bytes) (sym (header_one f one));
      }

-- Mode 2's control byte 1
module _ (bytes : List ℕ) (f : Fields) (c : ℕ) where
  pub control1_broken : (reason : Reason) → judgement (control1_rows f c) ≡ Err reason → verdict_behind (in_first f c) bytes 2 ≡ Refused (record { reason = reason; place = 1 })
  control1_broken reason e = behind_broken (control1_rows f c) (on (control2 f)) bytes 2 reason e

  pub control1_next : judgement (control1_rows f c) ≡ Ok tt → verdict_behind (in_first f c) bytes 2 ≡ verdict_at (control2 f) bytes 2
  control1_next e = behind_kept (control1_rows f c) (on (control2 f)) bytes 2 e ∙ behind_on (control2 f) bytes 2

  pub control1_lawful : 1 ≤ f.n → f.n ≤ 64 → judgement (control1_rows f c) ≡ Ok tt → LawfulFirst f
  control1_lawful h l e = coefficients_lawful f h l (judgement_kept (control1_rows f c) e).1.1

-- and its control byte 2
module _ (bytes : List ℕ) (f g : Fields) (d : ℕ) (here : 2 < length bytes) (read : d ≡ get_or bytes 2 0) (fields : g ≡ second f d) (two : f.mode1 ≡ false) where
  control2_step : verdict_at (control2 f) bytes 2 ≡ verdict_behind (judged (control2_rows g d) (enter_values g (vector_bytes g))) bytes 3
  control2_step = rw (fields, read) (reach_step step least bytes (control2 f) 2 here)

  pub control2_broken : (reason : Reason) → judgement (control2_rows g d) ≡ Err reason → verdict_at (control2 f) bytes 2 ≡ Refused (record { reason = reason; place = 2 })
  control2_broken reason e = control2_step ∙ behind_broken (control2_rows g d) (enter_values g (vector_bytes g)) bytes 3 reason e

  headed : header_bytes g ≡ 3
  headed = header_two g (ap (λ (h : Fields). h.mode1) fields ∙ two)

  pub control2_headed : LawfulFirst f → judgement (control2_rows g d) ≡ Ok tt → Headed (verdict_at (control2 f) bytes 2) (second f (get_or bytes 2 0)) bytes g
  control2_headed lawful e =
      record {
        same = fields ∙ ap (second f) read;
        lawful = rw fields (second_kept f d lawful (rw fields at (judgement_kept (control2_rows g d) e)));
        within = omega (arith, headed);
        leads = control2_step ∙ behind_kept (control2_rows g d) (enter_values g (vector_bytes g)) bytes 3 e ∙ ap (verdict_behind (enter_values g (vector_bytes g)) bytes) (sym headed);
      }
