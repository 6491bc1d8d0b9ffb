-- Mode 2 does not see what is told, and it is all that is left where Mode 1 is not let in. Assumes nothing.
use Prim.Native.Nat.{ℕ, ◌/◌}
use mathlib.Core.Path.{◌≡◌, sym, ap, ◌∙◌}
use mathlib.Core.Bool.{Bool, true, false, cond, false≢true}
use mathlib.Core.List.{List, [], ◌∷◌, ◌++◌}
use native.Mathlib.Omega.{arith}
use lib.ListN.{get_or, replicate}
use Rattle.verdict.specs.declared.Verdict.{Verdict}
use Rattle.verdict.specs.Machine.{on, bad, shift, run, follow}
use Rattle.verdict.specs.Rows.{Row, judged}
use Rattle.matrix.specs.declared.Told.{Told}
use Rattle.matrix.specs.Meaning.{Matrix}
use Rattle.matrix.specs.Header.{control, first, single, vector_bytes}
use Rattle.matrix.specs.Spelling.{packed, spelled}
use Rattle.matrix.specs.Pack.{MatrixPack}
use Rattle.matrix.specs.Table.{size_rows}
use Rattle.matrix.specs.Machine.{State, control1, in_single, in_first, step, least, verdict_of}
use Rattle.matrix.proofs.ControlBytes.{mode_two, mode_told, control_mode}
use Rattle.matrix.proofs.Header.{header_single}

-- ---- the verdict

-- a byte's rules lead on from either of two states alike, where what follows has one verdict from both
follow_alike : (rows : List Row) (s t : State) (rest : State → Verdict) → rest s ≡ rest t → follow (judged rows (on s)) rest ≡ follow (judged rows (on t)) rest
unfolding judged
follow_alike [] s t rest e = ap (shift 1) e
follow_alike (row ∷ rows) s t rest e = by row.broken (follow_alike rows s t rest e)
  where
    by : (broken : Bool) → follow (judged rows (on s)) rest ≡ follow (judged rows (on t)) rest
        → follow (cond broken (bad row.reason) (judged rows (on s))) rest ≡ follow (cond broken (bad row.reason) (judged rows (on t))) rest
    by true h = λ i. follow (bad row.reason) rest
    by false h = h

-- Mode 2's control byte 1 leads on alike
double_step : (told : Told) (n c : ℕ) (w : List ℕ) → c / 128 ≡ 1 → run step least (control1 told n) (c ∷ w) ≡ follow (in_first (first n c) c) (λ t. run step least t w)
unfolding run
double_step told n c w top = ap (λ (one : Bool). follow (cond one (in_single (single told n c)) (in_first (first n c) c)) (λ t. run step least t w)) (mode_two told c top)

-- bytes whose control byte 1 has its top bit have the same verdict, whatever is told
pub double_alike : (told other : Told) (n c : ℕ) (w : List ℕ) → c / 128 ≡ 1 → verdict_of told (n ∷ c ∷ w) ≡ verdict_of other (n ∷ c ∷ w)
unfolding run
double_alike told other n c w top =
    follow_alike (size_rows n) (control1 told n) (control1 other n) (λ t. run step least t (c ∷ w)) (double_step told n c w top ∙ sym (double_step other n c w top))

-- ---- the packs

-- what a meaning's bytes have behind the header
abbrev behind : Matrix → List ℕ
behind m = packed (vector_bytes m.fields) m.marks ++ (spelled m.fields.slen (replicate m.fields.n 1) m.deviations ++ spelled m.fields.clen m.marks m.coefficients)

module _ (alone : Told) (shut : alone.mode1 ≡ false) (told : Told) (w : List ℕ) where
  -- a pack of Mode 2 alone is one whatever is told
  pub alone_pack : MatrixPack alone w → MatrixPack told w
  alone_pack p = record { meaning = p.meaning; lawful = p.lawful; fits = λ e. absurd (false≢true (sym shut ∙ (p.fits e).let_in)); spelled = p.spelled }

  -- and the others are those whose second byte has no top bit
  pub pack_alone : get_or w 1 0 / 128 ≡ 1 → MatrixPack told w → MatrixPack alone w
  pack_alone top p = record { meaning = p.meaning; lawful = p.lawful; fits = λ e. absurd (single e); spelled = p.spelled }
    where
      single : p.meaning.fields.mode1 ≡ true → ⊥
      single e =
          let f = p.meaning.fields in
          let here : get_or w 1 0 ≡ control f = ap (λ (l : List ℕ). get_or l 1 0) (sym p.spelled) ∙ ap (λ (l : List ℕ). get_or (l ++ behind p.meaning) 1 0) (header_single f e) in
          omega (arith, ap (λ (c : ℕ). c / 128) here, (mode_told told (control f) (control_mode told f (p.fits e))).1)
