-- The control bytes and the fields: each spells the other where its rules are kept. Assumes nothing.
use Prim.Native.Nat.{ℕ, zero, suc, ◌+◌, ◌*◌, ◌/◌, ◌%◌, ◌≤◌, ◌<◌}
use mathlib.Core.Path.{◌≡◌, refl, sym, ap, ◌∙◌, subst}
use mathlib.Core.Bool.{Bool, true, false, and-false, and-eq-true_iff}
use native.Mathlib.Nat.{div-div-eq-div-mul}
use native.Mathlib.Omega.{arith}
use borrow.Author.Tests.{eqb-true, eqb-false, eq-eqb, ne_eqb, le-ltb, ltb-false, not-false}
use lib.Dec.{eqb}
use Rattle.verdict.proofs.Judging.{Kept}
use Rattle.rule.proofs.Certain.{deviation_sound, coefficient_sound, deviation_length, coefficient_length}
use Rattle.matrix.specs.declared.Fields.{Fields}
use Rattle.matrix.specs.declared.Told.{Told}
use Rattle.matrix.specs.Meaning.{LawfulFirst, LawfulFields, Mode1}
use Rattle.matrix.specs.Header.{bit, first, second, single, in_mode1, control, control1, control2}
use Rattle.matrix.specs.Table.{size_rows, control1_rows, control2_rows}
use Rattle.matrix.proofs.FieldRules.{lawful_coefficients, lawful_deviations}

bit_of : (x : ℕ) → x < 2 → bit (eqb x 1) ≡ x
bit_of zero h = refl
bit_of (suc zero) h = refl
bit_of (suc (suc x)) h = absurd (omega arith)

-- a byte by its upper bits
halves : (c : ℕ) → c < 256 → c ≡ c / 128 * 128 + (c / 64 % 2 * 64 + (c / 32 % 2 * 32 + (c / 16 % 2 * 16 + c % 16)))
halves c h =
    let a : c / 64 ≡ c / 128 * 2 + c / 64 % 2 = omega (arith, div-div-eq-div-mul c 64 2) in
    let b : c / 32 ≡ c / 64 * 2 + c / 32 % 2 = omega (arith, div-div-eq-div-mul c 32 2) in
    let d : c / 16 ≡ c / 32 * 2 + c / 16 % 2 = omega (arith, div-div-eq-div-mul c 16 2) in
    let e : c ≡ c / 16 * 16 + c % 16 = omega arith in
    omega arith

pub control1_spelled : (n c : ℕ) → c < 256 → Kept (control1_rows (first n c) c) → control1 (first n c) ≡ c
control1_spelled n c h k =
    let t : c / 128 ≡ 1 = omega (arith, eqb-false (c / 128) 0 k.0) in
    let r : c / 64 % 2 ≡ 0 = omega (arith, eqb-false (c / 64 % 2) 1 k.1.0) in
    omega (arith, halves c h, bit_of (c / 32 % 2) (omega arith), bit_of (c / 16 % 2) (omega arith))

pub control2_spelled : (f : Fields) (d : ℕ) → d < 256 → Kept (control2_rows (second f d) d) → control2 (second f d) ≡ d
control2_spelled f d h k =
    let r : d / 32 % 4 ≡ 0 = eqb-true (d / 32 % 4) 0 (not-false (eqb (d / 32 % 4) 0) k.1.0) in
    let t : d / 128 ≡ 0 = omega (arith, eqb-false (d / 128) 1 k.0) in
    let q : d / 32 ≡ 0 = omega (arith, div-div-eq-div-mul d 32 4) in
    let s : d / 16 < 2 = omega (arith, div-div-eq-div-mul d 16 2) in
    omega (arith, bit_of (d / 16 % 2) (omega arith))

-- a flag is read back from where it stands
flag16 : (a : Bool) (c h x : ℕ) → x < 16 → c ≡ h * 32 + (bit a * 16 + x) → eqb (c / 16 % 2) 1 ≡ a
flag16 true c h x l e = let q : c / 16 ≡ h * 2 + 1 = omega arith in eq-eqb (c / 16 % 2) 1 (omega arith)
flag16 false c h x l e = let q : c / 16 ≡ h * 2 = omega arith in ne_eqb (c / 16 % 2) 1 (λ z. omega arith)

flag32 : (a : Bool) (c h x : ℕ) → x < 32 → c ≡ h * 64 + (bit a * 32 + x) → eqb (c / 32 % 2) 1 ≡ a
flag32 true c h x l e = let q : c / 32 ≡ h * 2 + 1 = omega arith in eq-eqb (c / 32 % 2) 1 (omega arith)
flag32 false c h x l e = let q : c / 32 ≡ h * 2 = omega arith in ne_eqb (c / 32 % 2) 1 (λ z. omega arith)

bit_small : (a : Bool) → bit a ≤ 1
bit_small true = omega arith
bit_small false = omega arith

pub size_kept : (n : ℕ) → Kept (size_rows n) → (1 ≤ n) × (n ≤ 64)
size_kept n k = (omega (arith, eqb-false n 0 k.0), ltb-false 64 n k.1.1.0)

pub size_rows_lem : (n : ℕ) → 1 ≤ n → n ≤ 64 → Kept (size_rows n)
size_rows_lem n h l = (ne_eqb n 0 (λ e. omega arith), (ne_eqb n 0x80 (λ e. omega arith), (le-ltb 64 n l, tt)))

-- the fields of a lawful header are read back from its bytes
module _ (f : Fields) (g : LawfulFirst f) where
  pub clen_small : f.clen ≤ 8
  clen_small = omega (arith, (coefficient_sound f.cf f.clen g.coefficient_length).short, coefficient_length f.cf f.clen g.coefficient_length)

  pub control1_byte : control1 f < 256
  control1_byte = omega (arith, clen_small, bit_small f.cf, bit_small f.cs)

  pub first_back : f.mode1 ≡ false → first f.n (control1 f) ≡ second f 0
  first_back two = λ i. record {
    n = f.n;
    cs = flag32 f.cs (control1 f) 2 (bit f.cf * 16 + f.clen) (omega (arith, clen_small, bit_small f.cf)) (omega arith) i;
    cf = flag16 f.cf (control1 f) (4 + bit f.cs) f.clen (omega (arith, clen_small)) (omega arith) i;
    clen = mod16 i;
    sf = false;
    slen = 0;
    mode1 = sym two i;
  }
    where
      mod16 : control1 f % 16 ≡ f.clen
      mod16 = omega (arith, clen_small)

  -- its top bit is 1
  pub control1_top : control1 f / 128 ≡ 1
  control1_top = omega (arith, clen_small, bit_small f.cf, bit_small f.cs)

  pub first_rows : f.mode1 ≡ false → Kept (control1_rows (first f.n (control1 f)) (control1 f))
  first_rows two =
      subst (λ (h : Fields). Kept (control1_rows h (control1 f))) (sym (first_back two))
      (ne_eqb (control1 f / 128) 0 (λ e. omega (arith, control1_top)), (ne_eqb (control1 f / 64 % 2) 1 (λ e. omega (arith, upper)), lawful_coefficients f g))
    where
      upper : control1 f / 64 ≡ 2
      upper = omega (arith, clen_small, bit_small f.cf, bit_small f.cs)

module _ (f : Fields) (g : LawfulFields f) where
  pub slen_small : f.slen ≤ 8
  slen_small = omega (arith, (deviation_sound f.sf f.slen g.deviation_length).short, deviation_length f.sf f.slen g.deviation_length)

  pub control2_byte : control2 f < 256
  control2_byte = omega (arith, slen_small, bit_small f.sf)

  pub second_back : f.mode1 ≡ false → second (first f.n (control1 f)) (control2 f) ≡ f
  second_back two =
      ap (λ (h : Fields). second h (control2 f)) (first_back f g.first two)
      ∙ (λ i. record {
        n = f.n;
        cs = f.cs;
        cf = f.cf;
        clen = f.clen;
        sf = flag16 f.sf (control2 f) 0 f.slen (omega (arith, slen_small)) (omega arith) i;
        slen = mod16 i;
        mode1 = f.mode1;
      })
    where
      mod16 : control2 f % 16 ≡ f.slen
      mod16 = omega (arith, slen_small)

  pub second_rows : Kept (control2_rows f (control2 f))
  second_rows =
      let upper : control2 f / 32 ≡ 0 = omega (arith, slen_small, bit_small f.sf) in
      let reserved : control2 f / 32 % 4 ≡ 0 = omega arith in
      (ne_eqb (control2 f / 128) 1 (λ e. omega (arith, slen_small, bit_small f.sf)), (rw (eq-eqb (control2 f / 32 % 4) 0 reserved), lawful_deviations f g))

-- ---- Mode 1

-- a byte of either mode, by its top bit
pub mode_one : (told : Told) (c : ℕ) → told.mode1 ≡ true → c / 128 ≡ 0 → in_mode1 told c ≡ true
mode_one told c e top = rw (e, eq-eqb (c / 128) 0 top)

pub mode_two : (told : Told) (c : ℕ) → c / 128 ≡ 1 → in_mode1 told c ≡ false
mode_two told c top = rw (ne_eqb (c / 128) 0 (λ z. omega arith)) (and-false told.mode1)

-- no byte is Mode 1's where that is not let in
pub mode_shut : (told : Told) (c : ℕ) → told.mode1 ≡ false → in_mode1 told c ≡ false
mode_shut told c e = rw e

-- and what Mode 1's byte tells
pub mode_told : (told : Told) (c : ℕ) → in_mode1 told c ≡ true → (told.mode1 ≡ true) × (c / 128 ≡ 0)
mode_told told c e = let both = (and-eq-true_iff told.mode1 (eqb (c / 128) 0)).0 e in (both.0, eqb-true (c / 128) 0 both.1)

flag8 : (a : Bool) (c h x : ℕ) → x < 8 → c ≡ h * 16 + (bit a * 8 + x) → eqb (c / 8 % 2) 1 ≡ a
flag8 true c h x l e = let q : c / 8 ≡ h * 2 + 1 = omega arith in eq-eqb (c / 8 % 2) 1 (omega arith)
flag8 false c h x l e = let q : c / 8 ≡ h * 2 = omega arith in ne_eqb (c / 8 % 2) 1 (λ z. omega arith)

pub single_spelled : (told : Told) (n c : ℕ) → c / 128 ≡ 0 → control (single told n c) ≡ c
single_spelled told n c top =
    let a : c / 16 % 8 ≡ c / 16 = omega (arith, div-div-eq-div-mul c 16 8) in
    let b : c / 8 ≡ c / 16 * 2 + c / 8 % 2 = omega (arith, div-div-eq-div-mul c 8 2) in
    omega (arith, bit_of (c / 8 % 2) (omega arith))

module _ (told : Told) (f : Fields) (m : Mode1 told f) where
  control_small : control f < 128
  control_small = omega (arith, m.coefficient_room, m.deviation_room, bit_small f.cs)

  pub control_byte : control f < 256
  control_byte = omega (arith, control_small)

  pub control_mode : in_mode1 told (control f) ≡ true
  control_mode = mode_one told (control f) m.let_in (omega (arith, control_small))

  pub single_back : f.mode1 ≡ true → single told f.n (control f) ≡ f
  single_back one = λ i. record {
    n = f.n;
    cs = flag8 f.cs (control f) f.slen f.clen (omega (arith, m.coefficient_room)) (omega arith) i;
    cf = sym m.coefficient_format i;
    clen = mod8 i;
    sf = sym m.deviation_format i;
    slen = upper i;
    mode1 = sym one i;
  }
    where
      mod8 : control f % 8 ≡ f.clen
      mod8 = omega (arith, m.coefficient_room)

      upper : control f / 16 % 8 ≡ f.slen
      upper = let q : control f / 16 ≡ f.slen = omega (arith, m.coefficient_room, bit_small f.cs) in omega (arith, m.deviation_room)

-- what Mode 1's control byte says is in its formats and lengths
pub single_mode : (told : Told) (n c : ℕ) → told.mode1 ≡ true → Mode1 told (single told n c)
single_mode told n c e = record { let_in = e; coefficient_format = refl; deviation_format = refl; coefficient_room = omega arith; deviation_room = omega arith }

-- lawful lengths leave it a byte, in whatever formats
pub single_byte : (f : Fields) → LawfulFields f → control f < 256
single_byte f g = omega (arith, clen_small f g.first, slen_small f g, bit_small f.cs)
