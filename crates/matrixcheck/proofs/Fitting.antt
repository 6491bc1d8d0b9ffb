-- Marks and words that fit, one more at a time. Assumes nothing.
use Prim.Native.Nat.{ℕ, zero, suc, ◌+◌, ◌*◌, ◌≤◌, ◌<◌, min}
use mathlib.Core.Path.{◌≡◌, refl, sym, ap, ap₂, ◌∙◌}
use mathlib.Core.Bool.{Bool, true, false, not, ◌&&◌, ◌||◌, cond, and-true, and-false, and_assoc}
use mathlib.Core.List.{List, [], ◌∷◌}
use native.Mathlib.Numerals.{add-one}
use native.Mathlib.Omega.{arith}
use borrow.Author.Tests.{not-false, le-leb, lt-leb, leb-true, leb-false}
use lib.Bits.{bit_and, bit_or, or_lt}
use lib.Dec.{eqb, leb}
use lib.ListN.{length, take, drop, get_or, replicate, length-take, length-drop, length-replicate}
use lib.Seq.{length-take-le}
use Rattle.rule.specs.declared.rules.Rule.{Rule}
use Rattle.rule.specs.Rules.{admitted, cleared}
use Rattle.word.specs.Many.{gathered}
use Rattle.word.proofs.Gathered.{or_most, gathered_most}
use Rattle.verdict.proofs.Cases.{by_test, either}
use Rattle.matrix.specs.declared.Fields.{Fields}
use Rattle.matrix.specs.Meaning.{sum}
use Rattle.matrix.proofs.BitVector.{sum_same}
use Rattle.std.specs.Prelude.{Some}
use Rattle.std.proofs.lemmas.List.{drop_more}
use Rattle.std.specs.List.{fold, list_all, sum as total}
use Rattle.matrixcheck.specs.Marking.{marked_of}
use Rattle.matrixcheck.specs.Given.{deviation_marks, mark_fits, marks_fit, sent_fit}
use Rattle.matrixcheck.proofs.Entries.{marks_fitting, mark_between, keeps_sent}

pub marks_fit_more : (f : Fields) (marks : List ℕ) (i : ℕ) → i < length marks → marks_fit f (take (suc i) marks) ≡ marks_fit f (take i marks) && mark_fits f (get_or marks i 0)
unfolding marks_fit
marks_fit_more f [] i h = absurd (omega arith)
marks_fit_more f (mark ∷ marks) zero h = and-true (mark_fits f mark)
marks_fit_more f (mark ∷ marks) (suc i) h = rw (marks_fit_more f marks i (omega arith), and_assoc (mark_fits f mark))

-- of marks up to 1, all their bits together are at most the greatest where each is, and the bits that all have at least the least
or_fits : (most any mark : ℕ) → most ≤ 1 → mark ≤ most → leb (bit_or any mark) most ≡ leb any most
or_fits zero any mark h k = either (leb any 0) (λ t. rw t (le-leb (bit_or any mark) 0 (omega (arith, or_lt 0 any mark (omega (arith, leb-true any 0 t)) (omega arith))))) (λ t. rw t (lt-leb (bit_or any mark) 0 (omega (arith, leb-false any 0 t, (or_most any mark).0))))
or_fits (suc zero) any mark h k =
    either (leb any 1) (λ t. rw t (le-leb (bit_or any mark) 1 (omega (arith, or_lt 1 any mark (omega (arith, leb-true any 1 t)) (omega arith))))) (λ t. rw t (lt-leb (bit_or any mark) 1 (omega (arith, leb-false any 1 t, (or_most any mark).0))))
or_fits (suc (suc most)) any mark h k = absurd (omega arith)

and_fits : (least all mark : ℕ) → least ≤ 1 → all ≤ 1 → mark ≤ 1 → leb least (bit_and all mark) ≡ leb least all && leb least mark
and_fits zero all mark h k l = rw (le-leb 0 (bit_and all mark) (omega arith), le-leb 0 all (omega arith), le-leb 0 mark (omega arith))
and_fits (suc zero) zero mark h k l = refl
and_fits (suc zero) (suc zero) zero h k l = refl
and_fits (suc zero) (suc zero) (suc zero) h k l = refl
and_fits (suc zero) (suc zero) (suc (suc mark)) h k l = absurd (omega arith)
and_fits (suc zero) (suc (suc all)) mark h k l = absurd (omega arith)
and_fits (suc (suc least)) all mark h k l = absurd (omega arith)

-- one mark more
gathered_mark : (least most any all mark : ℕ) → most ≤ 1 → least ≤ most → all ≤ most → leb (bit_or any mark) most && leb least (bit_and all mark) ≡ (leb any most && leb least all) && (leb least mark && leb mark most)
gathered_mark least most any all mark one low high =
    either (leb mark most)
    (λ t. let small = leb-true mark most t in
    rw (or_fits most any mark one small, and_fits least all mark (omega arith) (omega arith) (omega arith), t, and-true (leb least mark), and_assoc (leb any most) (leb least all) (leb least mark)))
    (λ t. rw (lt-leb (bit_or any mark) most (omega (arith, leb-false mark most t, (or_most any mark).1)), t, and-false (leb least mark), and-false (leb any most && leb least all)))

-- so the marks fit that were gathered
pub marks_gathered : (f : Fields) (marks : List ℕ) (i least most any all : ℕ) → i < length marks → most ≡ min 1 f.clen → least ≡ cond f.cs 0 most → all ≤ most → leb any most && leb least all ≡ marks_fit f (take i marks)
    → leb (bit_or any (get_or marks i 0)) most && leb least (bit_and all (get_or marks i 0)) ≡ marks_fit f (take (i + 1) marks)
marks_gathered f marks i least most any all h m l high e =
    let low : least ≤ most = rw l (by_test (λ (n : ℕ). n ≤ most) f.cs 0 most (λ t. omega arith) (λ t. omega arith)) in
    gathered_mark least most any all (get_or marks i 0) (omega (arith, m)) low high ∙ rw (e, l, m, add-one) (sym (marks_fit_more f marks i h))

pub gathered_none : (f : Fields) (least most : ℕ) → least ≡ cond f.cs 0 most → leb 0 most && leb least most ≡ marks_fit f []
unfolding marks_fit
gathered_none f least most l =
    let low : least ≤ most = rw l (by_test (λ (n : ℕ). n ≤ most) f.cs 0 most (λ t. omega arith) (λ t. omega arith)) in
    rw (le-leb 0 most (omega arith), le-leb least most low)

-- a list of one value
pub all_same : (k : ℕ) (marks : List ℕ) → ((i : ℕ) → i < length marks → get_or marks i 0 ≡ k) → marks ≡ replicate (length marks) k
all_same k [] all = refl
all_same k (mark ∷ marks) all = ap₂ (λ (x : ℕ) (xs : List ℕ). x ∷ xs) (all 0 (omega arith)) (all_same k marks (λ i h. all (suc i) (omega arith)))

-- marks that fit, of a full matrix or without bytes, are all the same
module _ (f : Fields) (marks : List ℕ) (fit : marks_fit f marks ≡ true) where
  pub full_marks : f.cs ≡ false → marks ≡ replicate (length marks) (min 1 f.clen)
  full_marks full =
      all_same (min 1 f.clen) marks (λ i h. let b = mark_between f (get_or marks i 0) (marks_fitting f marks fit i h) in omega (arith, b.1, rw full at b.0))

-- the sum of marks, by std's fold
sum_folded : (k : ℕ) (marks : List ℕ) → fold (λ a x. a + x) k marks ≡ k + sum marks
unfolding sum
sum_folded k [] = omega arith
sum_folded k (mark ∷ marks) = omega (arith, sum_folded (k + mark) marks)

-- the marks that fit of a sparse matrix are counted
pub marked_sum : (f : Fields) (marks : List ℕ) (fit : Bool) → fit ≡ marks_fit f marks → not fit ≡ false → Some (total marks) ≡ marked_of f marks
marked_sum f marks fit tested t =
    let fits : marks_fit f marks ≡ true = sym tested ∙ not-false fit t in
    rw fits (ap Some (sum_folded 0 marks ∙ omega arith))

-- of a full matrix all marks are the same
pub marked_full : (f : Fields) (marks : List ℕ) (fit : Bool) → fit ≡ marks_fit f marks → not fit ≡ false → f.cs ≡ false → (mark : ℕ) → mark ≡ min 1 f.clen → Some (length marks * mark) ≡ marked_of f marks
marked_full f marks fit tested t full mark e =
    let fits : marks_fit f marks ≡ true = sym tested ∙ not-false fit t in
    rw (fits, e) (ap Some (sym (ap sum (full_marks f marks fits full) ∙ sum_same (length marks) (min 1 f.clen))))

module _ (rule : Rule) where
  unsigned_cleared : rule.sign ≡ 0 → (word : ℕ) → cleared rule.sign word ≡ word
  unsigned_cleared e word = rw (e, le-leb 0 word (omega arith)) (omega arith)

  -- where all are sent each is tested
  pub all_tested : (words : List ℕ) → list_all (admitted rule) words ≡ sent_fit rule (replicate (length words) 1) words
  unfolding sent_fit
  all_tested [] = refl
  all_tested (word ∷ words) = ap (λ (t : Bool). admitted rule word && t) (all_tested words)

  -- with marks beside them, one that is sent is tested, and then those behind it
  pub sent_from : (marks words : List ℕ) (i : ℕ) → length words ≡ length marks → i < length marks
      → sent_fit rule (drop i marks) (drop i words) ≡ (eqb (get_or marks i 0) 0 || admitted rule (get_or words i 0)) && sent_fit rule (drop (i + 1) marks) (drop (i + 1) words)
  unfolding sent_fit
  sent_from marks words i l h = ap₂ (sent_fit rule) (drop_more marks i 0 h) (drop_more words i 0 (omega arith))

  -- behind the last there is none
  none_sent : (marks words : List ℕ) → length marks ≡ 0 → true ≡ sent_fit rule marks words
  unfolding sent_fit
  none_sent [] words e = refl
  none_sent (mark ∷ marks) words e = absurd (omega arith)

  pub sent_behind : (marks words : List ℕ) (i : ℕ) → length marks ≤ i → true ≡ sent_fit rule (drop i marks) (drop i words)
  sent_behind marks words i h = none_sent (drop i marks) (drop i words) (rw (length-drop {A = ℕ} i marks) (omega arith))

  -- words past the marks are not tested
  pub sent_front : (marks words : List ℕ) (n : ℕ) → length marks ≤ n → sent_fit rule marks (take n words) ≡ sent_fit rule marks words
  unfolding sent_fit
  sent_front [] words n h = refl
  sent_front (mark ∷ marks) words zero h = absurd (omega arith)
  sent_front (mark ∷ marks) [] (suc n) h = refl
  sent_front (mark ∷ marks) (word ∷ words) (suc n) h = ap (λ (t : Bool). (eqb mark 0 || admitted rule word) && t) (sent_front marks words n (omega arith))

  -- without a sign, words keep the rule where all their bits together do
  pub gathered_keeps : rule.sign ≡ 0 → (words : List ℕ) → admitted rule (gathered words) ≡ true → true ≡ sent_fit rule (replicate (length words) 1) words
  gathered_keeps plain words e =
      let most : gathered words ≤ rule.greatest = leb-true (gathered words) rule.greatest (rw (unsigned_cleared plain (gathered words)) at e) in
      sym (keeps_sent rule (replicate (length words) 1) words (λ i h ne. rw (unsigned_cleared plain (get_or words i 0)) (omega (arith, most, gathered_most words i))))

  -- none is sent
  pub none_fit : (n : ℕ) (words : List ℕ) → sent_fit rule (replicate n 0) words ≡ true
  unfolding sent_fit
  none_fit zero words = refl
  none_fit (suc n) words = none_fit n (drop 1 words)

-- words that are all sent where they have bytes
module _ (rule : Rule) (words : List ℕ) (bytes : ℕ) where
  pub words_none : bytes ≡ 0 → true ≡ sent_fit rule (replicate (length words) (min 1 bytes)) words
  words_none e = rw e (sym (none_fit rule (length words) words))

  pub words_some : (fit : Bool) → (bytes ≡ 0 → ⊥) → fit ≡ sent_fit rule (replicate (length words) 1) words → fit ≡ sent_fit rule (replicate (length words) (min 1 bytes)) words
  words_some fit h e = let m : min 1 bytes ≡ 1 = omega arith in e ∙ rw m

-- the coefficients of a full matrix
pub full_coefficients : (f : Fields) (rule : Rule) (marks coefficients : List ℕ) (fit : Bool) → marks_fit f marks ≡ true → length coefficients ≡ length marks → f.cs ≡ false
    → fit ≡ sent_fit rule (replicate (length coefficients) (min 1 f.clen)) coefficients → fit ≡ sent_fit rule marks coefficients
full_coefficients f rule marks coefficients fit fits l full e =
    e ∙ ap (λ (n : ℕ). sent_fit rule (replicate n (min 1 f.clen)) coefficients) l ∙ ap (λ (ms : List ℕ). sent_fit rule ms coefficients) (sym (full_marks f marks fits full))

-- as many deviations as there are variables are tested
pub deviations_front : (f : Fields) (rule : Rule) (deviations : List ℕ) → f.n ≤ length deviations
    → sent_fit rule (replicate (length (take f.n deviations)) (min 1 f.slen)) (take f.n deviations) ≡ sent_fit rule (deviation_marks f) deviations
deviations_front f rule deviations enough = rw (length-take-le f.n deviations enough) (sent_front rule (deviation_marks f) deviations f.n (omega (arith, length-replicate f.n (min 1 f.slen))))

-- and as many coefficients as there are marks
pub coefficients_front : (rule : Rule) (marks coefficients : List ℕ) (count : ℕ) → sent_fit rule (take count marks) (take count coefficients) ≡ sent_fit rule (take count marks) coefficients
coefficients_front rule marks coefficients count = sent_front rule (take count marks) coefficients count (omega (arith, length-take count marks))
