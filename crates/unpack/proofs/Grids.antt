-- Filled cells of a square by rows: none, one, some and some more, all of them. Assumes nothing.
use Prim.Native.Nat.{ℕ, zero, suc, ◌+◌, ◌-◌, ◌*◌, ◌/◌, ◌%◌, ◌≤◌, ◌<◌}
use mathlib.Core.Path.{◌≡◌, refl, ◌∙◌, ap, sym}
use mathlib.Core.Bool.{Bool, true, false, ◌&&◌, ◌||◌, false≢true}
use mathlib.Core.List.{List}
use native.Mathlib.Nat.{div-add-mod', div-lt_iff_lt-mul, mod-lt}
use native.Mathlib.Omega.{arith}
use borrow.Author.Tests.{ltb-true, ltb-false}
use lib.Dec.{eqb, ltb}
use lib.ListN.{length, drop, get_or, set, length-set, length-append, length-drop, get_or-append}
use lib.Seq.{ext_get_or, get_or-drop, get_or-append-add, get_or-set_same, get_or-set_other}
use Rattle.verdict.proofs.Cases.{either, or_left}
use Rattle.matrix.specs.Expanded.{square}
use Rattle.verdict.specs.Lent.{over}
use Rattle.unpack.specs.Cells.{Cells}
use Rattle.matrix.proofs.Squares.{cell_below, cell_one, length_listed, square_at}
use Rattle.unpack.proofs.Tests.{tells_both, tells_equal}

-- one cell alone
abbrev pub only : ℕ → ℕ → ℕ → ℕ → Bool
only a b i j = eqb i a && eqb j b

abbrev pub every : ℕ → ℕ → Bool
every i j = true

-- the row and the column of a place in the square
cell_of : (n p : ℕ) → p < n * n → (p / n < n) × ((p % n < n) × (p ≡ p / n * n + p % n))
cell_of n p h = ((div-lt_iff_lt-mul {k = n} {x = p} {y = n} (some n h)).1 h, (mod-lt p {m = n} (some n h), sym (div-add-mod' p n)))
  where
    some : (n : ℕ) → p < n * n → 0 < n
    some zero h = absurd (omega arith)
    some (suc n) h = omega arith

over_behind : (values out : List ℕ) (p : ℕ) → length values ≤ p → get_or (over values out) p 0 ≡ get_or out p 0
over_behind values out p h =
    let e : length values + (p - length values) ≡ p = omega arith in
    ap (λ (q : ℕ). get_or (over values out) q 0) (sym e) ∙ get_or-append-add values (drop (length values) out) (p - length values) 0 ∙ get_or-drop (length values) out (p - length values) 0 ∙ ap (λ (q : ℕ). get_or out q 0) e

module _ {n : ℕ} {value : ℕ → ℕ → ℕ} where
  pub cells_none : {filled : ℕ → ℕ → Bool} {out : List ℕ} → ((i j : ℕ) → filled i j ≡ false) → Cells n value filled out out
  cells_none none = record { same_length = refl; values = λ i j h k e. absurd (false≢true (sym (none i j) ∙ e)); others = λ k e. refl }

  -- a value is put into its cell
  pub cells_only : (a b v : ℕ) (out : List ℕ) → a < n → b < n → n * n ≤ length out → v ≡ value a b → Cells n value (only a b) out (set out (a * n + b) v)
  cells_only a b v out h k room e =
      record {
        same_length = length-set out (a * n + b) v;
        values = λ i j x y t. let told = (tells_both (tells_equal i a) (tells_equal j b)).holds t in
            rw (told.0, told.1) (get_or-set_same out (a * n + b) v 0 (omega (arith, cell_below n a b h k)) ∙ e);
        others = λ p x. get_or-set_other out (a * n + b) p v 0 (λ here. false≢true (sym (x a b h k here) ∙ (tells_both (tells_equal a a) (tells_equal b b)).finds (refl, refl)));
      }

  module _ {f g : ℕ → ℕ → Bool} (h : ℕ → ℕ → Bool) (joins : (i j : ℕ) → i < n → j < n → h i j ≡ f i j || g i j) {out₀ out₁ out₂ : List ℕ} where
    -- some cells are filled, and then some more: what these leave of the first has its value already
    pub cells_both : {u : ℕ → ℕ → ℕ} → ((i j : ℕ) → i < n → j < n → f i j ≡ true → g i j ≡ false → u i j ≡ value i j)
        → Cells n u f out₀ out₁ → Cells n value g out₁ out₂ → Cells n value h out₀ out₂
    cells_both has first then =
        record {
          same_length = then.same_length ∙ first.same_length;
          values = λ i j x y t. either (g i j) (then.values i j x y)
              (λ s. let before = or_left (f i j) (g i j) (sym (joins i j x y) ∙ t) s in
              then.others (i * n + j) (λ a b u w e. let o = cell_one n i j a b y w e in rw (← o.0, ← o.1) s) ∙ first.values i j x y before ∙ has i j x y before s);
          others = λ p x. then.others p (λ i j u w e. not_second (f i j) (g i j) (sym (joins i j u w) ∙ x i j u w e)) ∙ first.others p (λ i j u w e. not_first (f i j) (g i j) (sym (joins i j u w) ∙ x i j u w e));
        }
      where
        not_first : (s t : Bool) → s || t ≡ false → s ≡ false
        not_first true t e = e
        not_first false t e = refl

        not_second : (s t : Bool) → s || t ≡ false → t ≡ false
        not_second true t e = absurd (false≢true (sym e))
        not_second false t e = e

    pub cells_more : Cells n value f out₀ out₁ → Cells n value g out₁ out₂ → Cells n value h out₀ out₂
    cells_more = cells_both (λ _ _ _ _ _ _. refl)

  module _ {out₀ : List ℕ} (room : n * n ≤ length out₀) where
    pub room_kept : {filled : ℕ → ℕ → Bool} {out : List ℕ} → Cells n value filled out₀ out → n * n ≤ length out
    room_kept c = omega (arith, c.same_length)

    -- values over as many entries as there are cells
    pub cells_over : (values : List ℕ) → length values ≡ n * n → ((i j : ℕ) → i < n → j < n → get_or values (i * n + j) 0 ≡ value i j) → Cells n value every out₀ (over values out₀)
    cells_over values count is =
        let behind = drop (length values) out₀ in
        record {
          same_length = omega (arith, length-append values behind, length-drop (length values) out₀);
          values = λ i j h k _. get_or-append values behind 0 (i * n + j) (omega (arith, cell_below n i j h k)) ∙ is i j h k;
          others = λ p x. either (ltb p (n * n)) (λ t. let c = cell_of n p (ltb-true p (n * n) t) in absurd (false≢true (sym (x (p / n) (p % n) c.0 c.1.0 c.1.1)))) (λ t. over_behind values out₀ p (omega (arith, ltb-false p (n * n) t)));
        }

    -- all cells are filled: there is one such list
    cells_one : {a b : List ℕ} → Cells n value every out₀ a → Cells n value every out₀ b → a ≡ b
    cells_one {a} {b} x y =
        ext_get_or 0 a b (x.same_length ∙ sym y.same_length)
        (λ p _. either (ltb p (n * n))
        (λ t. let c = cell_of n p (ltb-true p (n * n) t) in
        rw c.1.1 (x.values (p / n) (p % n) c.0 c.1.0 refl ∙ sym (y.values (p / n) (p % n) c.0 c.1.0 refl)))
        (λ t. let never : (i j : ℕ) → i < n → j < n → p ≡ i * n + j → true ≡ false = λ i j h k e. absurd (omega (arith, cell_below n i j h k, ltb-false p (n * n) t)) in
        x.others p never ∙ sym (y.others p never)))

    pub cells_all : {out : List ℕ} → Cells n value every out₀ out → out ≡ over (square n value) out₀
    cells_all c = cells_one c (cells_over (square n value) (length_listed (n * n) (λ p. value (p / n) (p % n))) (square_at n value))
