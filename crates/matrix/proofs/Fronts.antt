-- A word at the front of bytes, and what the machine accepts from inside it and from before it. Assumes nothing.
use Prim.Native.Nat.{ℕ, zero, suc, ◌+◌, ◌-◌, ◌*◌, ◌/◌, ◌%◌, ◌^◌, ◌≤◌, ◌<◌}
use mathlib.Core.Path.{◌≡◌, refl, sym, ap, ◌∙◌, subst}
use mathlib.Core.Bool.{Bool, true, false, cond}
use mathlib.Core.List.{List, [], ◌∷◌, ◌++◌}
use mathlib.Core.Logic.{◌↔◌}
use native.Mathlib.Nat.{mul-le-mul_right, div-add-mod', mod-lt, le-div_iff_mul-le, div-lt_iff_lt-mul, one-le-pow, pow-suc, pow-succ'}
use native.Mathlib.Omega.{arith}
use borrow.Author.Tests.{ltb-false, ltb-true, le-ltb}
use lib.Dec.{ltb}
use lib.ListN.{length, length-append}
use Rattle.verdict.specs.Rows.{judged}
use Rattle.verdict.proofs.Judging.{Reaches, kept_reaches, reaches_kept}
use Rattle.verdict.specs.Machine.{Move, Accepts}
use Rattle.rule.specs.declared.rules.Rule.{Rule}
use Rattle.rule.specs.Rules.{cleared, Keeps}
use Rattle.rule.specs.Sound.{Sound}
use Rattle.word.specs.Digits.{digits}
use Rattle.word.proofs.Digits.{digits_front, length_digits}
use Rattle.rule.proofs.Certain.{cleared_le, cleared_back, cleared_scaled, sign_whole}
use Rattle.matrix.specs.Table.{word_rows}
use Rattle.matrix.specs.Machine.{State, word, Run, enter, enter_word, enter_run, in_word, rest_of, step}

-- a sign of 0 is none
pub cleared_none : (p v : ℕ) → cleared (0 * p) v ≡ v
cleared_none p v = omega (arith, cleared_le (0 * p) v, cleared_back (0 * p) v)

-- a word is at most its limit where its first byte is at most the limit's, and its rest at most what that leaves
limit_front : (x more v top : ℕ) → v < 256 ^ more → (x * 256 ^ more + v ≤ top) ↔ ((x ≤ top / 256 ^ more) × (v ≤ rest_of more top x))
limit_front x more v top h = by (ltb x (top / 256 ^ more)) refl
  where
    by : (t : Bool) → ltb x (top / 256 ^ more) ≡ t → (x * 256 ^ more + v ≤ top) ↔ ((x ≤ top / 256 ^ more) × (v ≤ cond t (256 ^ more - 1) (top % 256 ^ more)))
    by true e = let l = ltb-true x (top / 256 ^ more) e in omega (arith, mul-le-mul_right (256 ^ more) l, div-add-mod' top (256 ^ more))
    by false e = (
      λ t. (
        (le-div_iff_mul-le {k = 256 ^ more} {x = x} {y = top} (omega arith)).1 (omega arith),
        omega (arith, mul-le-mul_right (256 ^ more) (ltb-false x (top / 256 ^ more) e), div-add-mod' top (256 ^ more)),
      ),
      λ t. omega (arith, mul-le-mul_right (256 ^ more) t.0, div-add-mod' top (256 ^ more)),
    )

-- the same with the sign cleared
word_front : (sign b more v top : ℕ) → v < 256 ^ more → (cleared (sign * 256 ^ more) (b * 256 ^ more + v) ≤ top) ↔ ((cleared sign b ≤ top / 256 ^ more) × (v ≤ rest_of more top (cleared sign b)))
word_front sign b more v top h = rw (cleared_scaled sign b (256 ^ more) v h) (limit_front (cleared sign b) more v top h)

-- bytes that begin with a word of n bytes of which P holds, where Q holds of those behind it
pub record Begins (n : ℕ) (P : ℕ → Type 0) (Q : List ℕ → Type 0) (w : List ℕ) : Type 0 where
  pub value : ℕ
  pub behind : List ℕ
  pub fits : value < 256 ^ n
  pub holds : P value
  pub spelled_as : digits 256 n value ++ behind ≡ w
  pub next : Q behind

begins_where : {n : ℕ} {P P' : ℕ → Type 0} {Q : List ℕ → Type 0} {w : List ℕ} → ((v : ℕ) → v < 256 ^ n → P v → P' v) → Begins n P Q w → Begins n P' Q w
begins_where f s =
    record { value = s.value; behind = s.behind; fits = s.fits; holds = f s.value s.fits s.holds; spelled_as = s.spelled_as; next = s.next }

-- a word without bytes is 0
begins_empty : {P : ℕ → Type 0} {Q : List ℕ → Type 0} {w : List ℕ} → P 0 → Q w ↔ Begins 0 P Q w
unfolding digits
begins_empty {Q} {w} h = (λ q. record { value = 0; behind = w; fits = omega arith; holds = h; spelled_as = refl; next = q }, λ s. subst Q s.spelled_as s.next)

module _ {n : ℕ} {P : ℕ → Type 0} {Q : List ℕ → Type 0} where
  -- a word of some bytes begins with one, and the rest of it behind that
  begins_some : Begins (suc n) P Q [] → ⊥
  begins_some s = omega (arith, length_digits 256 (suc n) s.value, simp length-append at (ap length s.spelled_as))

  begins_cons : {b : ℕ} {w : List ℕ} → b < 256 → Begins n (λ v. P (b * 256 ^ n + v)) Q w → Begins (suc n) P Q (b ∷ w)
  begins_cons {b} h s =
      record {
        value = b * 256 ^ n + s.value;
        behind = s.behind;
        fits = rw pow-suc (omega (arith, mul-le-mul_right (256 ^ n) h));
        holds = s.holds;
        spelled_as = rw (digits_front 256 n b s.value h s.fits, s.spelled_as);
        next = s.next;
      }

  begins_rest : {b : ℕ} {w : List ℕ} → Begins (suc n) P Q (b ∷ w) → (b < 256) × Begins n (λ v. P (b * 256 ^ n + v)) Q w
  begins_rest {b} {w} s =
      let d = s.value / 256 ^ n in
      let v = s.value % 256 ^ n in
      let p : 0 < 256 ^ n = one-le-pow n 256 (omega arith) in
      let l : v < 256 ^ n = mod-lt s.value p in
      let k : d < 256 = (div-lt_iff_lt-mul p).1 (rw pow-succ' at s.fits) in
      let e : d * 256 ^ n + v ≡ s.value = div-add-mod' s.value (256 ^ n) in
      let f : d ∷ (digits 256 n v ++ s.behind) ≡ b ∷ w = sym (ap (λ (ds : List ℕ). ds ++ s.behind) (digits_front 256 n d v k l)) ∙ rw e s.spelled_as in
      let i : d ≡ b = cc in
      (rw i at k, record { value = v; behind = s.behind; fits = l; holds = rw (← i, e) s.holds; spelled_as = cc; next = s.next })

-- a byte of a word is refused above its limit alone
byte_kept : (most x : ℕ) (next : Move State) (w : List ℕ) → Reaches step (judged (word_rows (ltb most x)) next) w ↔ ((x ≤ most) × Reaches step next w)
byte_kept most x next w =
    let rows = word_rows (ltb most x) in
    (λ a. let k = reaches_kept step rows next w a in (ltb-false most x k.0.0, k.1), λ a. kept_reaches step rows next w (le-ltb most x a.0, tt) a.1)

module _ (run : Run) (runs : List Run) where
  -- what is accepted behind the word
  abbrev Behind : List ℕ → Type 0
  Behind = Reaches step (enter (run ∷ runs))

  -- inside a word, the bytes of it from here and then what is behind it, where this is so one byte later
  word_accepted : (more : ℕ) → ((top : ℕ) (w : List ℕ) → Reaches step (in_word more top run runs) w ↔ Begins more (λ v. v ≤ top) Behind w) → (sign top : ℕ) (w : List ℕ) → Accepts step (word more sign top run runs) w ↔ Begins (suc more) (λ v. cleared (sign * 256 ^ more) v ≤ top) Behind w
  unfolding Accepts
  word_accepted more rest sign top [] = (λ a. absurd a, begins_some)
  word_accepted more rest sign top (b ∷ w) =
      let t = rest_of more top (cleared sign b) in
      let kept = byte_kept (top / 256 ^ more) (cleared sign b) (in_word more t run runs) w in (
        λ a. let k = kept.0 a.1 in begins_cons a.0 (begins_where (λ v h l. (word_front sign b more v top h).1 (k.0, l)) ((rest t w).0 k.1)),
        λ s. let r = begins_rest s in (
          r.0,
          kept.1 (((word_front sign b more r.1.value top r.1.fits).0 r.1.holds).0, (rest t w).1 (begins_where (λ v h l. ((word_front sign b more v top h).0 l).1) r.1)),
        ),
      )

  rest_accepted : (more top : ℕ) (w : List ℕ) → Reaches step (in_word more top run runs) w ↔ Begins more (λ v. v ≤ top) Behind w
  rest_accepted zero top w = begins_empty (omega arith)
  rest_accepted (suc more) top w = simp cleared_none at (word_accepted more (rest_accepted more) 0 top w)

-- words without bytes are passed over
pub run_empty : (rule : Rule) → rule.length ≡ 0 → (count : ℕ) (runs : List Run) (next : Move State) → enter_run rule count runs next ≡ next
run_empty rule e zero runs next = refl
run_empty rule e (suc count) runs next = rw e

-- from before a run of words, one of them and then the others
pub run_accepted : (rule : Rule) → Sound rule → (count : ℕ) (runs : List Run) (w : List ℕ) → Reaches step (enter (record { rule = rule; count = suc count } ∷ runs)) w ↔ Begins rule.length (Keeps rule) (Reaches step (enter (record { rule = rule; count = count } ∷ runs))) w
unfolding enter
run_accepted rule sound count runs w = by rule.length refl
  where
    by : (n : ℕ) → rule.length ≡ n → Reaches step (enter_word n rule count runs (enter runs)) w ↔ Begins n (Keeps rule) (Reaches step (enter (record { rule = rule; count = count } ∷ runs))) w
    by zero e = rw (run_empty rule e count runs (enter runs)) (begins_empty (omega (arith, cleared_le rule.sign 0)))
    by (suc more) e =
        let run : Run = record { rule = rule; count = count } in
        rw (← sign_whole rule sound more (omega arith)) at (word_accepted run runs more (rest_accepted run runs more) (rule.sign / 256 ^ more) rule.greatest w)
