-- What is given, entry by entry: the words that are sent, and what the tests of marks and words tell. Assumes nothing.
use Prim.Native.Nat.{ℕ, zero, suc, ◌≤◌, ◌<◌, min}
use mathlib.Core.Path.{◌≡◌, refl, ap, ◌∙◌, sym}
use mathlib.Core.Bool.{Bool, true, false, ◌&&◌, ◌||◌, cond, false≢true}
use mathlib.Core.List.{List, [], ◌∷◌}
use native.Mathlib.Omega.{arith}
use borrow.Author.Tests.{eqb-false, ne_eqb, leb-true, le-leb}
use lib.Dec.{eqb, leb}
use lib.ListN.{length, drop, get_or}
use lib.Seq.{get_or-drop}
use Rattle.verdict.proofs.Cases.{either, both_true}
use Rattle.rule.specs.declared.rules.Rule.{Rule}
use Rattle.rule.specs.Rules.{Keeps, admitted, cleared}
use Rattle.matrix.specs.declared.Fields.{Fields}
use Rattle.matrixcheck.specs.Given.{sent_words, mark_fits, marks_fit, sent_fit}

-- the entry behind the first
pub next_entry : (words : List ℕ) (i : ℕ) → get_or (drop 1 words) i 0 ≡ get_or words (suc i) 0
next_entry words i = get_or-drop 1 words i 0 ∙ ap (λ (k : ℕ). get_or words k 0) (omega arith)

pub length_sent : (none : ℕ) (marks words : List ℕ) → length (sent_words none marks words) ≡ length marks
unfolding sent_words
length_sent none [] words = refl
length_sent none (mark ∷ marks) words = omega (arith, length_sent none marks (drop 1 words))

pub sent_at : (none : ℕ) (marks words : List ℕ) (i : ℕ) → i < length marks → get_or (sent_words none marks words) i 0 ≡ cond (eqb (get_or marks i 0) 0) none (get_or words i 0)
unfolding sent_words
sent_at none [] words i h = absurd (omega arith)
sent_at none (mark ∷ marks) words zero h = refl
sent_at none (mark ∷ marks) words (suc i) h = sent_at none marks (drop 1 words) i (omega arith) ∙ ap (λ (w : ℕ). cond (eqb (get_or marks i 0) 0) none w) (next_entry words i)

-- ---- tests

true_both : (a b : Bool) → a ≡ true → b ≡ true → a && b ≡ true
true_both true b p q = q
true_both false b p q = p

or_true : (a b : Bool) → a || b ≡ true → a ≡ false → b ≡ true
or_true true b e h = absurd (false≢true (sym h))
or_true false b e h = e

pub marks_fitting : (f : Fields) (marks : List ℕ) → marks_fit f marks ≡ true → (i : ℕ) → i < length marks → mark_fits f (get_or marks i 0) ≡ true
unfolding marks_fit
marks_fitting f [] e i h = absurd (omega arith)
marks_fitting f (mark ∷ marks) e zero h = (both_true (mark_fits f mark) (marks_fit f marks) e).0
marks_fitting f (mark ∷ marks) e (suc i) h = marks_fitting f marks (both_true (mark_fits f mark) (marks_fit f marks) e).1 i (omega arith)

pub fitting_marks : (f : Fields) (marks : List ℕ) → ((i : ℕ) → i < length marks → mark_fits f (get_or marks i 0) ≡ true) → marks_fit f marks ≡ true
unfolding marks_fit
fitting_marks f [] all = refl
fitting_marks f (mark ∷ marks) all = true_both (mark_fits f mark) (marks_fit f marks) (all 0 (omega arith)) (fitting_marks f marks (λ i h. all (suc i) (omega arith)))

-- a mark's two limits
pub mark_between : (f : Fields) (mark : ℕ) → mark_fits f mark ≡ true → (cond f.cs 0 (min 1 f.clen) ≤ mark) × (mark ≤ min 1 f.clen)
mark_between f mark e =
    let b = both_true (leb (cond f.cs 0 (min 1 f.clen)) mark) (leb mark (min 1 f.clen)) e in
    (leb-true (cond f.cs 0 (min 1 f.clen)) mark b.0, leb-true mark (min 1 f.clen) b.1)

pub between_mark : (f : Fields) (mark : ℕ) → cond f.cs 0 (min 1 f.clen) ≤ mark → mark ≤ min 1 f.clen → mark_fits f mark ≡ true
between_mark f mark h k = true_both (leb (cond f.cs 0 (min 1 f.clen)) mark) (leb mark (min 1 f.clen)) (le-leb (cond f.cs 0 (min 1 f.clen)) mark h) (le-leb mark (min 1 f.clen) k)

module _ (rule : Rule) where
  pub sent_keeps : (marks words : List ℕ) → sent_fit rule marks words ≡ true → (i : ℕ) → i < length marks → (get_or marks i 0 ≡ 0 → ⊥) → Keeps rule (get_or words i 0)
  unfolding sent_fit
  sent_keeps [] words e i h ne = absurd (omega arith)
  sent_keeps (mark ∷ marks) words e zero h ne =
      let b = both_true (eqb mark 0 || admitted rule (get_or words 0 0)) (sent_fit rule marks (drop 1 words)) e in
      leb-true (cleared rule.sign (get_or words 0 0)) rule.greatest (or_true (eqb mark 0) (admitted rule (get_or words 0 0)) b.0 (ne_eqb mark 0 ne))
  sent_keeps (mark ∷ marks) words e (suc i) h ne =
      let b = both_true (eqb mark 0 || admitted rule (get_or words 0 0)) (sent_fit rule marks (drop 1 words)) e in
      rw (← next_entry words i) (sent_keeps marks (drop 1 words) b.1 i (omega arith) ne)

  pub keeps_sent : (marks words : List ℕ) → ((i : ℕ) → i < length marks → (get_or marks i 0 ≡ 0 → ⊥) → Keeps rule (get_or words i 0)) → sent_fit rule marks words ≡ true
  unfolding sent_fit
  keeps_sent [] words all = refl
  keeps_sent (mark ∷ marks) words all =
      true_both (eqb mark 0 || admitted rule (get_or words 0 0)) (sent_fit rule marks (drop 1 words))
      (either (eqb mark 0) (λ e. rw e) (λ e. rw e (le-leb (cleared rule.sign (get_or words 0 0)) rule.greatest (all 0 (omega arith) (eqb-false mark 0 e)))))
      (keeps_sent marks (drop 1 words) (λ i h ne. rw (next_entry words i) (all (suc i) (omega arith) ne)))
