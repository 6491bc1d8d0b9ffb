-- The words of a matrix pack, and what the machine accepts of them: the values of a meaning. Assumes nothing.
use Prim.Native.Nat.{ℕ, zero, suc, ◌-◌, ◌*◌, ◌≤◌, ◌<◌, min}
use mathlib.Core.Path.{◌≡◌, refl, ap, subst}
use mathlib.Core.List.{List, [], ◌∷◌, ◌++◌, append_assoc, append-nil}
use mathlib.Core.Logic.{◌↔◌}
use native.Mathlib.Nat.{zero-add, zero-mul, one-mul, mul-one}
use native.Mathlib.Numerals.{one-add}
use native.Mathlib.Omega.{arith}
use lib.ListN.{length, get_or, drop, replicate, length-drop, length-replicate}
use lib.Seq.{get_or-drop}
use Rattle.verdict.proofs.Judging.{Reaches}
use Rattle.rule.specs.declared.rules.Rule.{Rule}
use Rattle.rule.specs.Rules.{Keeps, rule_of_deviations, rule_of_coefficients}
use Rattle.rule.specs.Sound.{Sound}
use Rattle.word.specs.Digits.{digits}
use Rattle.rule.proofs.Certain.{keeps_fits, deviation_sound, coefficient_sound, deviation_length, coefficient_length}
use Rattle.matrix.specs.declared.Fields.{Fields}
use Rattle.matrix.specs.Meaning.{sum, nought, LawfulFields}
use Rattle.matrix.specs.Spelling.{spelled}
use Rattle.matrix.specs.Machine.{step, Run, enter, words_of}
use Rattle.matrix.proofs.BitVector.{sum_same}
use Rattle.matrix.proofs.Fronts.{run_accepted}

-- bytes that begin with words of a rule, those whose mark is 1, where Q holds of those behind them; the other words are this nought
record Marked (rule : Rule) (none : ℕ) (marks : List ℕ) (Q : List ℕ → Type 0) (w : List ℕ) : Type 0 where
  words : List ℕ
  behind : List ℕ
  counted : length words ≡ length marks
  kept : (i : ℕ) → get_or marks i 0 ≡ 1 → Keeps rule (get_or words i 0)
  not_sent : (i : ℕ) → i < length marks → get_or marks i 0 ≡ 0 → get_or words i 0 ≡ none
  spelled_as : spelled rule.length marks words ++ behind ≡ w
  next : Q behind

module _ {rule : Rule} {none : ℕ} {marks : List ℕ} {Q : List ℕ → Type 0} where
  marked_cons : (mark v : ℕ) {w t : List ℕ} → (mark ≡ 1 → Keeps rule v) → (mark ≡ 0 → v ≡ none) → digits 256 (mark * rule.length) v ++ t ≡ w → Marked rule none marks Q t → Marked rule none (mark ∷ marks) Q w
  unfolding spelled
  marked_cons mark v f g e m =
      record {
        words = v ∷ m.words;
        behind = m.behind;
        counted = ap suc m.counted;
        kept = elim [ zero ↦ f | suc i ↦ m.kept i ];
        not_sent = elim [ zero ↦ λ h. g | suc i ↦ λ h. m.not_sent i (omega arith) ];
        spelled_as = rw (append_assoc, m.spelled_as) e;
        next = m.next;
      }

  marked_split : {mark : ℕ} {w : List ℕ} (m : Marked rule none (mark ∷ marks) Q w) → digits 256 (mark * rule.length) (get_or m.words 0 0) ++ (spelled rule.length marks (drop 1 m.words) ++ m.behind) ≡ w
  unfolding spelled
  marked_split m = rw append_assoc at m.spelled_as

  marked_rest : {mark : ℕ} {w : List ℕ} (m : Marked rule none (mark ∷ marks) Q w) → Marked rule none marks Q (spelled rule.length marks (drop 1 m.words) ++ m.behind)
  marked_rest m =
      record {
        words = drop 1 m.words;
        behind = m.behind;
        counted = simp length-drop (omega arith);
        kept = λ i e. rw (get_or-drop, one-add) (m.kept (suc i) e);
        not_sent = λ i h e. rw (get_or-drop, one-add) (m.not_sent (suc i) (omega arith) e);
        spelled_as = refl;
        next = m.next;
      }

module _ (rule : Rule) (sound : Sound rule) (none : ℕ) (runs : List Run) where
  -- the machine accepts the words of these marks, and then those of the runs behind them
  abbrev Accepted : List ℕ → Type 0
  Accepted marks = (w : List ℕ) → Reaches step (enter (record { rule = rule; count = sum marks } ∷ runs)) w ↔ Marked rule none marks (Reaches step (enter runs)) w

  accepted_none : Accepted []
  unfolding sum spelled enter
  accepted_none w = (
    λ a. record { words = []; behind = w; counted = refl; kept = omega arith; not_sent = omega arith; spelled_as = refl; next = a },
    λ m. subst (Reaches step (enter runs)) m.spelled_as m.next,
  )

  accepted_zero : (marks : List ℕ) → Accepted marks → Accepted (0 ∷ marks)
  unfolding sum digits
  accepted_zero marks rest w =
      rw zero-add (
        λ a. marked_cons 0 none (omega arith) (λ z. refl) (rw zero-mul) ((rest w).0 a),
        λ m. (rest w).1 (subst (Marked rule none marks (Reaches step (enter runs))) (rw zero-mul at (marked_split m)) (marked_rest m)),
      )

  accepted_one : (marks : List ℕ) → Accepted marks → Accepted (1 ∷ marks)
  unfolding sum
  accepted_one marks rest w =
      let one = run_accepted rule sound (sum marks) runs w in
      rw one-add (
        λ a. let b = one.0 a in marked_cons 1 b.value (λ z. b.holds) (omega arith) (rw one-mul b.spelled_as) ((rest b.behind).0 b.next),
        λ m. let t = spelled rule.length marks (drop 1 m.words) ++ m.behind in
            one.1
            (record {
              value = get_or m.words 0 0;
              behind = t;
              fits = keeps_fits rule sound (get_or m.words 0 0) (m.kept 0 refl);
              holds = m.kept 0 refl;
              spelled_as = rw one-mul at (marked_split m);
              next = (rest t).1 (marked_rest m);
            }),
      )

  -- from before a run of words, those of any marks that count as many
  words_accepted : (marks : List ℕ) → ((i : ℕ) → get_or marks i 0 ≤ 1) → Accepted marks
  words_accepted [] l = accepted_none
  words_accepted (zero ∷ marks) l = accepted_zero marks (words_accepted marks (λ i. l (suc i)))
  words_accepted (suc zero ∷ marks) l = accepted_one marks (words_accepted marks (λ i. l (suc i)))
  words_accepted (suc (suc mark) ∷ marks) l = absurd (omega (arith, l 0))

-- the marks of deviations are all 1
pub get_D_ones : (n i : ℕ) → get_or (replicate n 1) i 0 ≡ min 1 (n - i)
get_D_ones zero i = omega arith
get_D_ones (suc n) zero = omega arith
get_D_ones (suc n) (suc i) = omega (arith, get_D_ones n i)

-- the values that bytes behind the vector spell, where these marks say which coefficients are sent
pub record Values (f : Fields) (marks w : List ℕ) : Type 0 where
  pub deviations : List ℕ
  pub coefficients : List ℕ
  pub deviation_count : length deviations ≡ f.n
  pub coefficient_count : length coefficients ≡ length marks
  pub deviation_rule : (i : ℕ) → i < f.n → Keeps (rule_of_deviations f.sf f.slen) (get_or deviations i 0)
  pub coefficient_rule : (i : ℕ) → get_or marks i 0 ≡ 1 → Keeps (rule_of_coefficients f.cf f.clen) (get_or coefficients i 0)
  pub not_sent : (i : ℕ) → i < length marks → get_or marks i 0 ≡ 0 → get_or coefficients i 0 ≡ nought f
  pub spelled_as : spelled f.slen (replicate f.n 1) deviations ++ spelled f.clen marks coefficients ≡ w

-- behind the vector of lawful fields the machine accepts exactly the bytes of values
module _ (f : Fields) (marks : List ℕ) (lawful : LawfulFields f) (most : (i : ℕ) → get_or marks i 0 ≤ 1) (w : List ℕ) where
  -- the words behind the deviations
  abbrev sent : List Run
  sent = record { rule = rule_of_coefficients f.cf f.clen; count = sum marks } ∷ []

  slen_length : (rule_of_deviations f.sf f.slen).length ≡ f.slen
  slen_length = deviation_length f.sf f.slen lawful.deviation_length

  clen_length : (rule_of_coefficients f.cf f.clen).length ≡ f.clen
  clen_length = coefficient_length f.cf f.clen lawful.first.coefficient_length

  deviations_accepted : Reaches step (enter (words_of f (sum marks))) w ↔ Marked (rule_of_deviations f.sf f.slen) 0 (replicate f.n 1) (Reaches step (enter sent)) w
  deviations_accepted = rw (sum_same, mul-one) at (words_accepted (rule_of_deviations f.sf f.slen) (deviation_sound f.sf f.slen lawful.deviation_length) 0 sent (replicate f.n 1) (λ i. omega (arith, get_D_ones f.n i)) w)

  coefficients_accepted : (t : List ℕ) → Reaches step (enter sent) t ↔ Marked (rule_of_coefficients f.cf f.clen) (nought f) marks (Reaches step (enter [])) t
  coefficients_accepted = words_accepted (rule_of_coefficients f.cf f.clen) (coefficient_sound f.cf f.clen lawful.first.coefficient_length) (nought f) [] marks most

  pub values_accepted : Values f marks w → Reaches step (enter (words_of f (sum marks))) w
  unfolding enter
  values_accepted v =
      let t = spelled f.clen marks v.coefficients in
      deviations_accepted.1
      (record {
        words = v.deviations;
        behind = t;
        counted = rw length-replicate v.deviation_count;
        kept = λ i e. v.deviation_rule i (omega (arith, get_D_ones f.n i));
        not_sent = λ i h. omega (arith, get_D_ones f.n i, rw length-replicate at h);
        spelled_as = rw slen_length v.spelled_as;
        next = (coefficients_accepted t).1
            (record {
              words = v.coefficients;
              behind = [];
              counted = v.coefficient_count;
              kept = v.coefficient_rule;
              not_sent = v.not_sent;
              spelled_as = rw (clen_length, append-nil);
              next = refl;
            });
      })

  pub accepted_values : Reaches step (enter (words_of f (sum marks))) w → Values f marks w
  unfolding enter
  accepted_values a =
      let d = deviations_accepted.0 a in
      let c = (coefficients_accepted d.behind).0 d.next in
      let e : spelled f.clen marks c.words ≡ d.behind = rw (clen_length, c.next, append-nil) at c.spelled_as in
      record {
        deviations = d.words;
        coefficients = c.words;
        deviation_count = rw length-replicate at d.counted;
        coefficient_count = c.counted;
        deviation_rule = λ i h. d.kept i (omega (arith, get_D_ones f.n i));
        coefficient_rule = c.kept;
        not_sent = c.not_sent;
        spelled_as = rw e (rw slen_length at d.spelled_as);
      }
