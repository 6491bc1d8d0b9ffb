-- One matrix has one encoding. Assumes nothing.
use Prim.Native.Nat.{ℕ, zero, suc, ◌<◌}
use mathlib.Core.Path.{◌≡◌, refl, sym, ap, ap₂, ◌∙◌, subst}
use mathlib.Core.Bool.{Bool, true, false, false≢true}
use mathlib.Core.Logic.{◌↔◌}
use mathlib.Core.List.{List, [], ◌∷◌}
use lib.ListN.{get_or}
use native.Mathlib.Omega.{arith}
use Rattle.verdict.specs.Machine.{run}
use Rattle.verdict.specs.Rows.{judged}
use Rattle.word.specs.Digits.{digits}
use Rattle.matrix.specs.declared.Told.{Told}
use Rattle.matrix.specs.Meaning.{Matrix, pairs, sum, alone, Lawful, Fits, stating}
use Rattle.matrix.specs.Header.{header_bytes, bits}
use Rattle.matrix.specs.Spelling.{read, bytes_of, meaning_of}
use Rattle.matrix.specs.Pack.{MatrixPack}
use Rattle.matrix.specs.Machine.{enter, run_bytes}
use Rattle.matrix.proofs.Complete.{complete_meaning}
use Rattle.matrix.proofs.Decoding.{Meant, meaning_one}
use Rattle.theorems.specs.Encoding.{SameValues, SameMatrix}
use Rattle.theorems.proofs.Starred.{bytely_bytes}

-- two flags that are not alone are the same where Mode 1 tells them, and where there are bytes
flag_one : (mode1 a b : Bool) (length : ℕ) → alone mode1 a length ≡ false → alone mode1 b length ≡ false → (mode1 ≡ true → a ≡ b) → (0 < length → a ≡ b) → a ≡ b
flag_one true a b length x y told stated = told refl
flag_one false a b (suc length) x y told stated = stated (omega arith)
flag_one false true b zero x y told stated = absurd (false≢true (sym x))
flag_one false false true zero x y told stated = absurd (false≢true (sym y))
flag_one false false false zero x y told stated = refl

-- a meaning, sparse or not
abbrev with_cs : Bool → Matrix → Matrix
with_cs cs m =
    record {
      fields = record { n = m.fields.n; cs = cs; cf = m.fields.cf; clen = m.fields.clen; sf = m.fields.sf; slen = m.fields.slen; mode1 = m.fields.mode1 };
      deviations = m.deviations;
      marks = m.marks;
      coefficients = m.coefficients;
    }

-- meanings that differ in Cs alone have the same values
same_values : (cs : Bool) (m : Matrix) → SameValues m (with_cs cs m)
same_values cs m = record { mode = refl; size = refl; coefficient_length = refl; deviation_length = refl; coefficient_format = λ h. refl; deviation_format = λ h. refl; deviations = refl; marks = refl; coefficients = refl }

same_itself : (m : Matrix) → SameMatrix m m
same_itself m = record { values = same_values m.fields.cs m; sparse = refl }

module _ (told : Told) (m k : Matrix) (g : Lawful m) (h : Lawful k) (a : Fits told m.fields) (b : Fits told k.fields) where
  coefficient_formats : SameValues m k → m.fields.cf ≡ k.fields.cf
  coefficient_formats s =
      flag_one m.fields.mode1 m.fields.cf k.fields.cf m.fields.clen g.fields.first.coefficient_flag
      (ap₂ (λ (one : Bool) (length : ℕ). alone one k.fields.cf length) s.mode s.coefficient_length ∙ h.fields.first.coefficient_flag)
      (λ e. (a e).coefficient_format ∙ sym (b (sym s.mode ∙ e)).coefficient_format) s.coefficient_format

  deviation_formats : SameValues m k → m.fields.sf ≡ k.fields.sf
  deviation_formats s =
      flag_one m.fields.mode1 m.fields.sf k.fields.sf m.fields.slen g.fields.deviation_flag
      (ap₂ (λ (one : Bool) (length : ℕ). alone one k.fields.sf length) s.mode s.deviation_length ∙ h.fields.deviation_flag)
      (λ e. (a e).deviation_format ∙ sym (b (sym s.mode ∙ e)).deviation_format) s.deviation_format

  -- one matrix has one meaning
  pub same_meaning : SameMatrix m k → m ≡ k
  same_meaning s = λ i. record {
    fields = record {
      n = s.values.size i;
      cs = s.sparse i;
      cf = coefficient_formats s.values i;
      clen = s.values.coefficient_length i;
      sf = deviation_formats s.values i;
      slen = s.values.deviation_length i;
      mode1 = s.values.mode i;
    };
    deviations = s.values.deviations i;
    marks = s.values.marks i;
    coefficients = s.values.coefficients i;
  }

  -- and its bytes, which no other matrix has
  pub one_encoding : SameMatrix m k ↔ (bytes_of m ≡ bytes_of k)
  one_encoding = (λ s. ap bytes_of (same_meaning s), λ e. subst (SameMatrix m) (meaning_one told m k g a h b e) (same_itself m))

-- two packs hold one matrix exactly where they are the same bytes
pub pack_encoding : (told : Told) (v w : List ℕ) (p : MatrixPack told v) (q : MatrixPack told w) → SameMatrix p.meaning q.meaning ↔ (v ≡ w)
pack_encoding told v w p q =
    let x = one_encoding told p.meaning q.meaning p.lawful q.lawful p.fits q.fits in
    (λ s. sym p.spelled ∙ x.0 s ∙ q.spelled, λ e. x.1 (p.spelled ∙ e ∙ sym q.spelled))

-- ---- why both have to be sparse or neither

-- where one alone is sparse and the values are the same, each of its bits is 1
pub apart_all_sent : (m k : Matrix) → Lawful m → Lawful k → SameValues m k → m.fields.cs ≡ true → k.fields.cs ≡ false → (i : ℕ) → i < pairs m.fields.n → get_or m.marks i 0 ≡ 1
apart_all_sent m k g h s sparse full i l =
    ap (λ (marks : List ℕ). get_or marks i 0) s.marks ∙ h.values.all_sent full i (subst (λ (n : ℕ). i < pairs n) s.size l) ∙ omega (arith, s.coefficient_length, g.fields.first.sparse sparse)

abbrev sparse_pack : List ℕ
sparse_pack = 0x02 ∷ 0xB1 ∷ 0x00 ∷ 0x80 ∷ 0x40 ∷ []

abbrev full_pack : List ℕ
full_pack = 0x02 ∷ 0x91 ∷ 0x00 ∷ 0x40 ∷ []

-- and such there are
pub sparse_apart : (m : Matrix) × (k : Matrix) × Lawful m × Lawful k × SameValues m k × (bytes_of m ≡ bytes_of k → ⊥)
unfolding run judged enter run_bytes sum digits header_bytes bits read
sparse_apart =
    let told = stating false in
    let x : Meant told sparse_pack (meaning_of told sparse_pack) = complete_meaning told sparse_pack (bytely_bytes sparse_pack refl) 5 refl in
    let y : Meant told full_pack (meaning_of told full_pack) = complete_meaning told full_pack (bytely_bytes full_pack refl) 4 refl in
    (meaning_of told sparse_pack, meaning_of told full_pack, x.0, y.0, same_values false (meaning_of told sparse_pack), λ e. differ (sym x.2 ∙ e ∙ y.2))
  where
    differ : sparse_pack ≡ full_pack → ⊥
    differ e = let z : ◌≡◌ {A = ℕ} 0xB1 0x91 = ap (λ (l : List ℕ). get_or l 1 0) e in omega arith
