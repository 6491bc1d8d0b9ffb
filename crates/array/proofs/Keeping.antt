-- The machine of array packs keeps the laws of machines. Assumes nothing.
use Prim.Native.Nat.{ℕ, zero, suc, ◌+◌, ◌-◌, ◌*◌, ◌/◌, ◌≤◌, ◌<◌}
use mathlib.Core.Path.{◌≡◌, refl, sym, subst}
use mathlib.Core.Bool.{true, false≢true}
use native.Mathlib.Nat.{mul-le-mul_left, le-div_iff_mul-le, mul_comm, mul-pos, add-zero}
use native.Mathlib.Omega.{arith}
use lib.Dec.{lit<, lit≤}
use Rattle.verdict.specs.Machine.{on, Falls, Nears, Laws}
use Rattle.std.specs.Prelude.{Result}
use Rattle.verdict.specs.declared.Reason.{Reason}
use Rattle.number.specs.declared.Effect.{Effect}
use Rattle.number.proofs.Octet.{Does, ends, goes, fails, does, effect_ends}
use Rattle.array.specs.Meaning.{most}
use Rattle.array.specs.Table.{Field, dims, size, element, processing, limit, positive}
use Rattle.array.specs.Machine.{State, number, body, enter, behind, behind_size, behind_effect, move, least, GoodField, Good}

-- a value that keeps its limit keeps the product's
pub limit_product : (product x : ℕ) → 1 ≤ product → x ≤ most / product → product * x ≤ most
limit_product product x h l = rw (mul_comm product x) ((le-div_iff_mul-le {k = product} {x = x} {y = most} h).0 l)

-- no number begun: its value keeps every limit
begin : (field : Field) → 0 * 128 ≤ limit field
begin field = omega arith

-- behind a number's last octet
behind_falls : (field : Field) (value x : ℕ) → GoodField field → x ≤ limit field → (positive field ≡ true → 0 < x) → value * 128 ≤ x → Falls least Good (least (number field value)) (behind field x)
behind_falls dims value x g l p v = let q = p refl in (((omega arith, (omega arith, lit≤ tt)), begin (size (x - 1) 1)), omega arith)
behind_falls (size zero product) value x g l p v = (((mul-pos g.1.0 (p refl), limit_product product x g.1.0 l), begin (element (product * x))), omega arith)
behind_falls (size (suc more) product) value x g l p v = (((omega arith, (mul-pos g.1.0 (p refl), limit_product product x g.1.0 l)), begin (size more (product * x))), omega arith)
behind_falls (element product) value x g l p v = ((limit_product product x g.0 l, begin (processing (product * x))), omega (arith, mul-le-mul_left product v))
behind_falls (processing zero) value x g l p v = omega arith
behind_falls (processing (suc total)) value x g l p v = (g, omega arith)

-- behind any other octet
more_falls : (field : Field) (value x : ℕ) → GoodField field → x * 128 ≤ limit field → value * 128 ≤ x → Falls least Good (least (number field value)) (on (number field x))
more_falls dims value x g l v = ((g, l), omega arith)
more_falls (size more product) value x g l v = ((g, l), omega arith)
more_falls (element product) value x g l v = ((g, l), omega (arith, mul-le-mul_left {m = value * 128} {n = x * 128} product (omega arith)))
more_falls (processing total) value x g l v = ((g, l), omega arith)

falls_number : (field : Field) (value octet : ℕ) → Good (number field value) → Falls least Good (least (number field value)) (move (number field value) octet)
falls_number field value octet g = go (does octet value (positive field) (limit field))
  where
    go : {e : Result Effect Reason} → Does octet value (positive field) (limit field) e → Falls least Good (least (number field value)) (behind_effect field e)
    go (ends l p h) = behind_falls field value (value * 128 + octet) g.0 h p (omega arith)
    go (goes d e p h) = more_falls field value (value * 128 + d) g.0 h (omega arith)
    go fails = tt

falls_body : (more : ℕ) → more < most → Falls least Good (suc more) (enter more)
falls_body zero h = omega arith
falls_body (suc more) h = (omega arith, omega arith)

-- some byte brings the machine nearer
abbrev Near : State → Type 0
Near s = (b : ℕ) × (b < 256) × Nears least (least s) (move s b)

ends_near : (field : Field) (value octet : ℕ) → octet < 128 → (positive field ≡ true → 0 < value * 128 + octet) → value * 128 + octet ≤ limit field → Nears least (least (number field value)) (behind field (value * 128 + octet)) → Near (number field value)
ends_near field value octet h p l n =
    (octet, omega arith, subst (λ (e : Result Effect Reason). Nears least (least (number field value)) (behind_effect field e)) (sym (effect_ends octet value (positive field) (limit field) h p l)) n)

size_near : (more product : ℕ) → Nears least (more + 3) (behind_size more product)
size_near zero product = omega arith
size_near (suc more) product = omega arith

enter_near : (total : ℕ) → Nears least (suc total) (enter total)
enter_near zero = omega arith
enter_near (suc total) = omega arith

-- the smallest ending: a first octet 1, or 0 for E and behind other octets
nears_number : (field : Field) (value : ℕ) → Good (number field value) → Near (number field value)
nears_number dims value g = ends_near dims value 1 (lit< tt) (λ _. omega arith) (omega (arith, g.1)) (omega (arith, g.1))
nears_number (size more product) zero g =
    ends_near (size more product) zero 1 (lit< tt) (λ _. omega arith) ((le-div_iff_mul-le {k = product} {x = 1} {y = most} g.0.1.0).1 (omega (arith, g.0.1.1))) (size_near more (product * 1))
nears_number (size more product) (suc value) g = ends_near (size more product) (suc value) 0 (lit< tt) (λ _. omega arith) (omega (arith, g.1)) (size_near more (product * (suc value * 128 + 0)))
nears_number (element product) value g = ends_near (element product) value 0 (lit< tt) (λ e. absurd (false≢true e)) (omega (arith, g.1)) (rw (add-zero (value * 128)) (omega arith))
nears_number (processing total) value g = ends_near (processing total) value 1 (lit< tt) (λ _. omega arith) (omega (arith, g.1)) (subst (λ (k : ℕ). Nears least k (enter total)) (omega arith) (enter_near total))

pub array_laws : Laws move least Good
array_laws = record { falls = falls; nears = nears }
  where
    falls : (s : State) → Good s → (b : ℕ) → b < 256 → Falls least Good (least s) (move s b)
    falls (number field value) g b h = falls_number field value b g
    falls (body more) g b h = falls_body more g

    nears : (s : State) → Good s → Near s
    nears (number field value) g = nears_number field value g
    nears (body more) g = (0, lit< tt, enter_near more)
