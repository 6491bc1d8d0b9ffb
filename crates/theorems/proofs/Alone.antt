-- Where 16, FORMAT ALONE, is given: at each flag alone of Mode 2, whatever stands behind it, and never in Mode 1. Assumes nothing.
use Prim.Native.Nat.{ℕ, ◌/◌, ◌≤◌}
use mathlib.Core.Path.{◌≡◌, refl, sym, ◌∙◌, subst}
use mathlib.Core.Bool.{Bool, true, false, ◌||◌, cond, false≢true}
use mathlib.Core.List.{List, [], ◌∷◌}
use native.Mathlib.Omega.{arith}
use lib.Dec.{eqb, ltb}
use lib.ListN.{length}
use Rattle.verdict.specs.declared.Reason.TheVariants.{FormatAlone}
use Rattle.std.specs.Prelude.{Err}
use Rattle.verdict.specs.declared.Verdict.{Verdict}
use Rattle.verdict.specs.declared.Verdict.TheVariants.{Refused}
use Rattle.verdict.specs.Judgement.{judgement}
use Rattle.verdict.specs.Rows.{Row, Blamed}
use Rattle.verdict.specs.Writing.{refusing, WrittenBy}
use Rattle.verdict.proofs.Cases.{either}
use Rattle.verdict.proofs.Judging.{broken, blamed_broken}
use Rattle.verdict.proofs.Deciding.{kept_judgement, decided_blamed}
use Rattle.matrix.specs.declared.Fields.{Fields}
use Rattle.matrix.specs.declared.Told.{Told}
use Rattle.matrix.specs.Meaning.{LawfulFirst}
use Rattle.matrix.specs.Header.{first, second, single, in_mode1, vector_bytes, control1, control2}
use Rattle.matrix.specs.Table.{size_rows, single_rows, control1_rows, word_rows, value_rows, single_rows_of, double_rows_of, Why}
use Rattle.matrix.specs.Machine.{in_first, verdict_of}
use Rattle.matrix.specs.Reached.{verdict_behind}
use Rattle.matrix.proofs.ControlBytes.{size_rows_lem, mode_two, first_rows, control1_top}
use Rattle.matrix.proofs.FieldRules.{never_alone}
use Rattle.matrixhead.proofs.Heading.{size_next, first_step, control1_broken, control1_next, control2_broken}
use Rattle.matrixwriter.specs.Writing.{writer_rows}

-- ---- Mode 2

abbrev alone_at : ℕ → Verdict
alone_at place = Refused (record { reason = FormatAlone; place = place })

-- behind a lawful size the rules of control byte 1 decide
module _ (told : Told) (n c : ℕ) (h : 1 ≤ n) (l : n ≤ 64) (top : c / 128 ≡ 1) (w : List ℕ) where
  abbrev bytes : List ℕ
  bytes = n ∷ c ∷ w

  to_control1 : verdict_of told bytes ≡ verdict_behind (in_first (first n c) c) bytes 2
  to_control1 = size_next told bytes n (omega arith) refl (kept_judgement (size_rows n) (size_rows_lem n h l)) ∙ first_step told bytes n c (omega arith) refl (mode_two told c top)

  first_refused : judgement (control1_rows (first n c) c) ≡ Err FormatAlone → verdict_of told bytes ≡ alone_at 1
  first_refused e = to_control1 ∙ control1_broken bytes (first n c) c FormatAlone e

-- Cf is 1 and Clen is 0: refused at control byte 1
pub coefficient_alone : (told : Told) (f : Fields) (w : List ℕ) → 1 ≤ f.n → f.n ≤ 64 → f.cf ≡ true → f.clen ≡ 0 → verdict_of told (f.n ∷ control1 f ∷ w) ≡ alone_at 1
coefficient_alone told f w h l mapped none =
    either f.cs (λ e. from 0xB0 (rw (e, mapped, none) refl) (first_refused told f.n 0xB0 h l refl w refl)) (λ e. from 0x90 (rw (e, mapped, none) refl) (first_refused told f.n 0x90 h l refl w refl))
  where
    from : (c : ℕ) → c ≡ control1 f → verdict_of told (f.n ∷ c ∷ w) ≡ alone_at 1 → verdict_of told (f.n ∷ control1 f ∷ w) ≡ alone_at 1
    from c e x = subst (λ (b : ℕ). verdict_of told (f.n ∷ b ∷ w) ≡ alone_at 1) e x

-- Sf is 1 and Slen is 0: refused at control byte 2, where control byte 1 keeps its rules
pub deviation_alone : (told : Told) (f : Fields) (w : List ℕ) → LawfulFirst f → f.mode1 ≡ false → f.sf ≡ true → f.slen ≡ 0 → verdict_of told (f.n ∷ control1 f ∷ control2 f ∷ w) ≡ alone_at 2
deviation_alone told f w g two mapped none =
    let n = f.n in
    let c = control1 f in
    let bytes : List ℕ = n ∷ c ∷ 0x10 ∷ w in
    let x : verdict_of told bytes ≡ alone_at 2 =
    to_control1 told n c g.size_least g.size_most (control1_top f g) (0x10 ∷ w) ∙ control1_next bytes (first n c) c (kept_judgement (control1_rows (first n c) c) (first_rows f g two))
    ∙ control2_broken bytes (first n c) (second (first n c) 0x10) 0x10 (omega arith) refl refl refl FormatAlone refl in
    subst (λ (d : ℕ). verdict_of told (n ∷ c ∷ d ∷ w) ≡ alone_at 2) (rw (mapped, none) refl) x

-- ---- Mode 1

-- no byte of a pack of Mode 1 is refused 16
pub single_never : (told : Told) (n c : ℕ) (w : List ℕ) → in_mode1 told c ≡ true → Why told (n ∷ c ∷ w) FormatAlone → ⊥
single_never told n c w one x = none w (subst (λ (t : Bool). Blamed (cond t (single_rows_of (single told n c) w) (double_rows_of (first n c) c w)) FormatAlone) one x)
  where
    values : (short last : Bool) (rows : List Row) → broken 16 rows ≡ false → broken 16 (cond short [] (cond last rows (word_rows true))) ≡ false
    values true last rows e = refl
    values false true rows e = e
    values false false rows e = refl

    none : (w : List ℕ) → Blamed (single_rows_of (single told n c) w) FormatAlone → ⊥
    none [] y = false≢true (blamed_broken (single_rows (single told n c)) FormatAlone y)
    none (b ∷ v) y =
        let f = single told n c in
        false≢true (sym (values (ltb (length (b ∷ v)) (vector_bytes f)) (eqb (length (b ∷ v)) (vector_bytes f)) _ refl) ∙ blamed_broken (value_rows f (b ∷ v)) FormatAlone y)

neither : (a b : Bool) → a ≡ false → b ≡ false → a || (b || false) ≡ false
neither true b e g = absurd (false≢true (sym e))
neither false true e g = absurd (false≢true (sym g))
neither false false e g = refl

-- nor does its writer give 16, whatever flags it is given
pub writer_never : (mapped : Bool) (f : Fields) (deviations coefficients marks out bytes : List ℕ) (answer : Verdict) (out' : List ℕ) → f.mode1 ≡ true
    → WrittenBy (writer_rows mapped f deviations coefficients marks out) bytes out 0 answer out' → answer ≡ refusing FormatAlone → ⊥
writer_never mapped f deviations coefficients marks out bytes answer out' one w e =
    let rows = writer_rows mapped f deviations coefficients marks out in
    let kept : broken 16 rows ≡ false = neither _ _ (never_alone f one (f.mode1 || f.cf) f.clen) (never_alone f one (cond f.mode1 mapped f.sf) f.slen) in
    false≢true (sym kept ∙ blamed_broken rows FormatAlone (decided_blamed rows (length bytes) FormatAlone (sym w.said ∙ e)))
