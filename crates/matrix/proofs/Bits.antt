-- The bit at each place of some bytes. Assumes nothing.
use Prim.Native.Nat.{ℕ, zero, suc, ◌+◌, ◌-◌, ◌*◌, ◌/◌, ◌%◌, ◌^◌, ◌<◌}
use mathlib.Core.Path.{◌≡◌, ◌∙◌, ap}
use mathlib.Core.List.{List, [], ◌∷◌, ◌++◌}
use native.Mathlib.Nat.{pow-zero, div-one, pow-succ', div-div-eq-div-mul}
use native.Mathlib.Omega.{arith}
use borrow.Author.Tests.{ltb-true, ltb-false}
use lib.Dec.{ltb}
use lib.ListN.{length, get_or, get_or-append}
use lib.Seq.{get_or-append-add, get_or_at}
use Rattle.verdict.proofs.Cases.{either}
use Rattle.word.specs.Digits.{digits}
use Rattle.word.proofs.Digits.{length_digits}
use Rattle.matrix.specs.Header.{bits}

-- a digit of a value, counted from the first of n
pub digit_at : (b n v i : ℕ) → i < n → get_or (digits b n v) i 0 ≡ v / b ^ (n - suc i) % b
unfolding digits
digit_at b zero v i h = absurd (omega arith)
digit_at b (suc n) v i h =
    let l = length_digits b n (v / b) in
    either (ltb i n)
    (λ t. let e : suc n - suc i ≡ suc (n - suc i) = omega (arith, ltb-true i n t) in
    get_or-append (digits b n (v / b)) (v % b ∷ []) 0 i (omega (arith, ltb-true i n t)) ∙ digit_at b n (v / b) i (ltb-true i n t) ∙ rw (div-div-eq-div-mul v b (b ^ (n - suc i)), ← pow-succ' b (n - suc i), e))
    (λ t. let e : suc n - suc i ≡ 0 = omega (arith, ltb-false i n t) in
    get_or_at (digits b n (v / b)) (v % b) [] 0 i (omega (arith, ltb-false i n t)) ∙ rw (e, pow-zero b, div-one v))

pub bits_at : (v : List ℕ) (k : ℕ) → k < length v * 8 → get_or (bits v) k 0 ≡ get_or v (k / 8) 0 / 2 ^ (7 - k % 8) % 2
unfolding bits
bits_at [] k h = absurd (omega arith)
bits_at (b ∷ v) k h =
    either (ltb k 8)
    (λ t. let l = ltb-true k 8 t in
    let q : k / 8 ≡ 0 = omega arith in
    let r : 7 - k % 8 ≡ 8 - suc k = omega arith in
    get_or-append (digits 2 8 b) (bits v) 0 k (omega (arith, length_digits 2 8 b)) ∙ digit_at 2 8 b k l ∙ rw (q, r))
    (λ t. let l = ltb-false k 8 t in
    let e : k ≡ length (digits 2 8 b) + (k - 8) = omega (arith, length_digits 2 8 b) in
    let q : k / 8 ≡ suc ((k - 8) / 8) = omega arith in
    let r : k % 8 ≡ (k - 8) % 8 = omega arith in
    ap (λ (j : ℕ). get_or (digits 2 8 b ++ bits v) j 0) e ∙ get_or-append-add (digits 2 8 b) (bits v) (k - 8) 0 ∙ bits_at v (k - 8) (omega arith) ∙ rw (q, r))
