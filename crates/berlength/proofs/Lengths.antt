-- A length has one form, its value is small; and the bytes of a length where it stands. Assumes nothing.
use Prim.Native.Nat.{ℕ, suc, ◌+◌, ◌*◌, ◌/◌, ◌%◌, ◌≤◌, ◌<◌}
use mathlib.Core.Path.{◌≡◌, refl, subst}
use mathlib.Core.List.{List, [], ◌∷◌, ◌++◌}
use native.Mathlib.Omega.{arith}
use borrow.Author.Tests.{lt-ltb, le-ltb, ltb-false, eqb-true}
use lib.Dec.{eqb, ltb}
use lib.ListN.{length, take}
use Rattle.verdict.specs.Says.{Bytes}
use Rattle.verdict.proofs.Cases.{by_test}
use Rattle.std.specs.Prelude.{Result, Ok, Err}
use Rattle.berlength.specs.declared.Length.{Length}
use Rattle.berlength.specs.declared.NoLength.{NoLength}
use Rattle.berlength.specs.declared.NoLength.TheVariants.{Missing, WrongForm}
use Rattle.berlength.specs.Lengths.{of, one_byte, two_bytes, length_of, shortest}

-- ---- one form

-- its shortest form is read back, whatever is behind it
pub shortest_read : (n : ℕ) (t : List ℕ) → n < 65536 → length_of (shortest n ++ t) ≡ of n (length (shortest n))
shortest_read n t h =
    by_test (λ (form : List ℕ). length_of (form ++ t) ≡ of n (length form)) (ltb n 128) (n ∷ []) _ (λ e. rw e)
    (λ e. by_test (λ (form : List ℕ). length_of (form ++ t) ≡ of n (length form)) (ltb n 256) (0x81 ∷ n ∷ []) (0x82 ∷ n / 256 ∷ n % 256 ∷ []) (λ f. rw e)
    (λ f. let whole : n / 256 * 256 + n % 256 ≡ n = omega arith in rw (whole, f)))

-- what a length that was read says of the bytes: they begin with its shortest form
abbrev pub Shortest : List ℕ → Result Length NoLength → Type 0
Shortest w (Err Missing) = Unit {0}
Shortest w (Err WrongForm) = Unit {0}
Shortest w (Ok length') = (take length'.octets w ≡ shortest length'.value) × (length'.octets ≡ length (shortest length'.value))

one_shortest : (w : List ℕ) → Bytes w → Shortest (0x81 ∷ w) (one_byte w)
one_shortest [] b = tt
one_shortest (a ∷ w) b = by_test (Shortest (0x81 ∷ a ∷ w)) (ltb a 128) (Err WrongForm) (of a 2) (λ _. tt) (λ e. rw (e, lt-ltb a 256 (b 0)) (refl, refl))

two_shortest : (w : List ℕ) → Bytes w → Shortest (0x82 ∷ w) (two_bytes w)
two_shortest [] b = tt
two_shortest (a ∷ []) b = tt
two_shortest (a ∷ c ∷ w) b =
    by_test (Shortest (0x82 ∷ a ∷ c ∷ w)) (ltb (a * 256 + c) 256) (Err WrongForm) (of (a * 256 + c) 3) (λ _. tt)
    (λ e.
    let large = ltb-false (a * 256 + c) 256 e in
    let high : (a * 256 + c) / 256 ≡ a = omega (arith, b 1) in
    let low : (a * 256 + c) % 256 ≡ c = omega (arith, b 1) in
    rw (le-ltb (a * 256 + c) 128 (omega arith), e, high, low) (refl, refl))

pub length_shortest : (w : List ℕ) → Bytes w → Shortest w (length_of w)
length_shortest [] b = tt
length_shortest (a ∷ w) b =
    by_test (Shortest (a ∷ w)) (ltb a 0x80) (of a 1) _ (λ e. rw e (refl, refl))
    (λ _. by_test (Shortest (a ∷ w)) (eqb a 0x81) (one_byte w) _ (λ e. rw (eqb-true a 0x81 e) (one_shortest w (λ i. b (suc i))))
    (λ _. by_test (Shortest (a ∷ w)) (eqb a 0x82) (two_bytes w) (Err WrongForm) (λ e. rw (eqb-true a 0x82 e) (two_shortest w (λ i. b (suc i)))) (λ _. tt)))

pub read_shortest : (w : List ℕ) (n k : ℕ) → Bytes w → length_of w ≡ of n k → take k w ≡ shortest n
read_shortest w n k b e = (subst (Shortest w) e (length_shortest w b)).0

pub shortest_few : (n : ℕ) → length (shortest n) ≤ 3
shortest_few n =
    by_test (λ (form : List ℕ). length form ≤ 3) (ltb n 128) (n ∷ []) _ (λ _. omega arith)
    (λ _. by_test (λ (form : List ℕ). length form ≤ 3) (ltb n 256) (0x81 ∷ n ∷ []) (0x82 ∷ n / 256 ∷ n % 256 ∷ []) (λ _. omega arith) (λ _. omega arith))

-- ---- its value is small

-- with its bytes, at most the greatest of two bytes behind 82
abbrev pub Few : Result Length NoLength → Type 0
Few (Err Missing) = Unit {0}
Few (Err WrongForm) = Unit {0}
Few (Ok length') = length'.octets + length'.value ≤ 65538

one_few : (w : List ℕ) → Bytes w → Few (one_byte w)
one_few [] f = tt
one_few (a ∷ w) f = by_test Few (ltb a 128) (Err WrongForm) (of a 2) (λ _. tt) (λ _. omega (arith, f 0))

two_few : (w : List ℕ) → Bytes w → Few (two_bytes w)
two_few [] f = tt
two_few (a ∷ []) f = tt
two_few (a ∷ b ∷ w) f = by_test Few (ltb (a * 256 + b) 256) (Err WrongForm) (of (a * 256 + b) 3) (λ _. tt) (λ _. omega (arith, f 0, f 1))

pub length_few : (w : List ℕ) → Bytes w → Few (length_of w)
length_few [] f = tt
length_few (a ∷ w) f =
    by_test Few (ltb a 0x80) (of a 1) _ (λ _. omega (arith, f 0))
    (λ _. by_test Few (eqb a 0x81) (one_byte w) _ (λ _. one_few w (λ i. f (suc i))) (λ _. by_test Few (eqb a 0x82) (two_bytes w) (Err WrongForm) (λ _. two_few w (λ i. f (suc i))) (λ _. tt)))
