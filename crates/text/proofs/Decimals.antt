-- A number's decimal digits are those that the library writes, how many there are, and that they are few. Assumes nothing.
use Prim.Native.Nat.{ℕ, zero, suc, ◌+◌, ◌/◌, ◌%◌, ◌^◌, ◌≤◌, ◌<◌}
use mathlib.Core.Path.{◌≡◌, refl, ◌∙◌}
use mathlib.Core.List.{List, [], ◌∷◌, ◌++◌}
use native.Mathlib.Omega.{arith}
use borrow.Author.Tests.{lt-ltb, le-ltb, ltb-true, ltb-false}
use lib.Dec.{ltb}
use lib.ListN.{length, length-append}
use Rattle.std.specs.Fmt.{decimal as library_decimal}
use Rattle.std.proofs.lemmas.Fmt.{AppendsLastDigit, decimal_from_appends, length-decimal-le, length-decimal-le_succ}
use Rattle.verdict.proofs.Cases.{either}
use Rattle.text.specs.Text.{decimal_in, decimal}

-- fuel does not matter once it is enough
fuel_enough : (f g n : ℕ) → n ≤ f → n ≤ g → decimal_in f n ≡ decimal_in g n
unfolding decimal_in
fuel_enough zero zero n h k = refl
fuel_enough zero (suc g) n h k = let e : n ≡ 0 = omega arith in rw e
fuel_enough (suc f) zero n h k = let e : n ≡ 0 = omega arith in rw e
fuel_enough (suc f) (suc g) n h k = rw (fuel_enough f g (n / 10) (omega arith) (omega arith))

last_behind : AppendsLastDigit decimal_in
unfolding decimal_in
last_behind = record { one = λ k n h. rw (lt-ltb n 10 h); more = λ k n h. rw (le-ltb n 10 h) }

pub decimal_library : (n : ℕ) → n < 2 ^ 64 → decimal n ≡ library_decimal n
unfolding decimal
decimal_library n h = fuel_enough n (n + 1) n (omega arith) (omega arith) ∙ decimal_from_appends decimal_in last_behind (n + 1) n h (length-decimal-le_succ n h)

-- twenty digits in 64 bits
pub decimal_short : (n : ℕ) → n < 2 ^ 64 → length (decimal n) ≤ 20
decimal_short n h = rw (decimal_library n h) (length-decimal-le 20 n (omega arith) (omega arith) h)

-- ---- a number has one digit more than its tenth

decimal_small : (n : ℕ) → n < 10 → decimal n ≡ (48 + n) ∷ []
unfolding decimal decimal_in
decimal_small zero h = refl
decimal_small (suc n) h = rw (lt-ltb (suc n) 10 h)

decimal_more : (n : ℕ) → 10 ≤ n → decimal n ≡ decimal (n / 10) ++ ((48 + n % 10) ∷ [])
unfolding decimal decimal_in
decimal_more zero h = absurd (omega arith)
decimal_more (suc n) h = rw (le-ltb (suc n) 10 h, fuel_enough n (suc n / 10) (suc n / 10) (omega arith) (omega arith))

-- a number's digits, none for 0
unfoldable pub digits : ℕ → List ℕ
digits zero = []
digits (suc n) = decimal (suc n)

digits_of : (n : ℕ) → 0 < n → digits n ≡ decimal n
unfolding digits
digits_of zero h = absurd (omega arith)
digits_of (suc n) h = refl

-- the last digit behind the others
pub decimal_last : (n : ℕ) → decimal n ≡ digits (n / 10) ++ ((48 + n % 10) ∷ [])
unfolding digits
decimal_last n =
    either (ltb n 10)
    (λ t. let h : n < 10 = ltb-true n 10 t in let e : n / 10 ≡ 0 = omega arith in let r : n % 10 ≡ n = omega arith in rw (e, r) (decimal_small n h))
    (λ t. let h : 10 ≤ n = ltb-false n 10 t in rw (digits_of (n / 10) (omega arith)) (decimal_more n h))

pub length_decimal : (n : ℕ) → length (decimal n) ≡ length (digits (n / 10)) + 1
length_decimal n = rw decimal_last (length-append (digits (n / 10)) ((48 + n % 10) ∷ []))

pub length_digits : (n : ℕ) → 0 < n → length (digits n) ≡ length (digits (n / 10)) + 1
length_digits n h = rw (digits_of n h) (length_decimal n)
