-- What the parts of a walk come to: the verdict on the whole, or the whole pack. Assumes nothing.
use Prim.Native.Nat.{ℕ, ◌*◌}
use mathlib.Core.Path.{◌≡◌, refl, sym, ap, ap₂, ◌∙◌}
use mathlib.Core.List.{List, [], ◌∷◌}
use native.Mathlib.Omega.{arith}
use Rattle.verdict.specs.declared.Refusal.{Refusal}
use Rattle.verdict.specs.declared.Stop.{Stop}
use Rattle.verdict.specs.declared.Stop.TheVariants.{Unfinished as StopUnfinished, Refused as StopRefused}
use Rattle.verdict.specs.Answers.{stopped}
use Rattle.verdict.specs.declared.Verdict.{Verdict}
use Rattle.verdict.specs.declared.Verdict.TheVariants.{Complete, Unfinished, Refused}
use Rattle.verdict.specs.Reaching.{led}
use Rattle.rule.specs.declared.rules.Rule.{Rule}
use Rattle.rule.specs.Rules.{rule_of_deviations, rule_of_coefficients, ruled_by}
use Rattle.rule.proofs.Certain.{coefficient_length}
use Rattle.matrix.specs.declared.Fields.{Fields}
use Rattle.matrix.specs.declared.Told.{Told}
use Rattle.std.specs.Prelude.{Result, Ok, Err}
use Rattle.matrixwalk.specs.declared.Found.{Found}
use Rattle.matrix.specs.Meaning.{LawfulFields}
use Rattle.matrix.specs.Header.{fields_of, sent_in, words_from}
use Rattle.matrixhead.specs.Parts.{BegunBy, BegunFrom}
use Rattle.matrix.specs.Machine.{Run, enter, run_bytes, verdict_of}
use Rattle.matrix.specs.Reached.{verdict_behind}
use Rattle.matrixwalk.specs.Walk.{walked_for, walked_of}
use Rattle.matrixwalk.specs.Parts.{run_of, WordsAt, verdict_from, PassedTo, PastDeviations, FoundIn, WalkFrom}

-- the rules that lawful fields choose
module _ (f : Fields) (g : LawfulFields f) where
  pub deviations_ruled : ruled_by f.sf f.slen (rule_of_deviations f.sf f.slen) ≡ Ok (rule_of_deviations f.sf f.slen)
  deviations_ruled = rw g.deviation_length

  pub coefficients_ruled : ruled_by f.cf f.clen (rule_of_coefficients f.cf f.clen) ≡ Ok (rule_of_coefficients f.cf f.clen)
  coefficients_ruled = rw g.first.coefficient_length

  module _ (answer : Result Rule Refusal) (rule : Rule) (is : answer ≡ Ok rule) where
    chosen : (r : Rule) → answer ≡ Ok r → rule ≡ r
    chosen r e = cc

    pub chosen_deviations : answer ≡ ruled_by f.sf f.slen (rule_of_deviations f.sf f.slen) → rule ≡ rule_of_deviations f.sf f.slen
    chosen_deviations e = chosen _ (e ∙ deviations_ruled)

    pub chosen_coefficients : answer ≡ ruled_by f.cf f.clen (rule_of_coefficients f.cf f.clen) → rule ≡ rule_of_coefficients f.cf f.clen
    chosen_coefficients e = chosen _ (e ∙ coefficients_ruled)

module _ (bytes : List ℕ) (f : Fields) (sent words : ℕ) (rule : Rule) where
  module _ (b : WordsAt bytes f words sent) (e : rule ≡ rule_of_deviations f.sf f.slen) where
    -- the coefficients behind the deviations
    abbrev behind : List Run
    behind = run_of (rule_of_coefficients f.cf f.clen) sent ∷ []

    behind_bytes : run_bytes behind ≡ sent * f.clen
    unfolding run_bytes
    behind_bytes = rw (coefficient_length f.cf f.clen b.lawful.first.coefficient_length) (omega arith)

    to_deviations : verdict_from bytes f words sent ≡ verdict_behind (enter (run_of rule f.n ∷ behind)) bytes words
    to_deviations = rw e refl

    pub deviations_end : (v : Verdict) → ((runs : List Run) → run_bytes runs ≡ sent * f.clen → verdict_behind (enter (run_of rule f.n ∷ runs)) bytes words ≡ v) → verdict_from bytes f words sent ≡ v
    deviations_end v x = to_deviations ∙ x behind behind_bytes

    pub deviations_passed : (place : ℕ) → PassedTo bytes words f.n rule (sent * f.clen) place → PastDeviations bytes f words sent place
    deviations_passed place p = record { begun = b; within = p.within; leads = to_deviations ∙ p.leads behind behind_bytes }

  module _ (place : ℕ) (d : PastDeviations bytes f words sent place) (e : rule ≡ rule_of_coefficients f.cf f.clen) where
    to_coefficients : verdict_from bytes f words sent ≡ verdict_behind (enter (run_of rule sent ∷ [])) bytes place
    to_coefficients = rw e d.leads

    pub coefficients_end : (v : Verdict) → ((runs : List Run) → run_bytes runs ≡ 0 → verdict_behind (enter (run_of rule sent ∷ runs)) bytes place ≡ v) → verdict_from bytes f words sent ≡ v
    unfolding run_bytes
    coefficients_end v x = to_coefficients ∙ x [] refl

    pub coefficients_passed : (end : ℕ) → PassedTo bytes place sent rule 0 end → FoundIn bytes f words sent (record { fields = f; words = words; sent = sent; length = end })
    unfolding run_bytes enter led
    coefficients_passed end p = record { same = refl; said = to_coefficients ∙ p.leads [] refl }

-- ---- the whole pack, under what was told

module _ (told : Told) (bytes : List ℕ) where
  -- what begins a pack leads to its words
  pub begun_words : (f : Fields) (words sent : ℕ) → BegunBy told bytes f words sent → WordsAt bytes f words sent
  begun_words f words sent b = record { lawful = b.lawful; within = b.within; counted = b.counted }

  -- what was found of a whole pack is what its bytes have
  found_same : (f : Fields) (words sent : ℕ) → BegunBy told bytes f words sent → (n : ℕ) → Ok (record { fields = f; words = words; sent = sent; length = n }) ≡ walked_for told bytes (Complete n)
  found_same f words sent b n =
      let e = b.same in
      let w : words ≡ words_from (fields_of told bytes) = b.start ∙ ap words_from e in
      let s : sent ≡ sent_in (fields_of told bytes) bytes = b.marked ∙ ap (λ (g : Fields). sent_in g bytes) e in
      ap (λ (g : Fields). Ok (record { fields = g; words = words; sent = sent; length = n })) e
      ∙ ap₂ (λ (p k : ℕ). Ok (record { fields = fields_of told bytes; words = p; sent = k; length = n })) w s

  -- an answer that stands for the verdict is the walk's
  pub ended_one : (v : Verdict) (walked : Result Found Stop) → walked ≡ walked_for told bytes v → verdict_of told bytes ≡ v → walked ≡ walked_of told bytes
  ended_one v walked e x = e ∙ sym (ap (walked_for told bytes) x)

  -- and so where there is no whole pack
  pub stopped_one : (stop : Stop) → verdict_of told bytes ≡ stopped stop → Err stop ≡ walked_of told bytes
  stopped_one (StopUnfinished missing) = ended_one (Unfinished missing) (Err (StopUnfinished missing)) refl
  stopped_one (StopRefused refusal) = ended_one (Refused refusal) (Err (StopRefused refusal)) refl

  -- what begins no pack
  pub begun_stopped : (stop : Stop) → BegunFrom told bytes (Err stop) → verdict_of told bytes ≡ stopped stop
  begun_stopped (StopUnfinished missing) x = x.0
  begun_stopped (StopRefused refusal) x = x.0

  -- the walk's contract admits one answer
  pub walked_one : (f : Fields) (words sent : ℕ) → BegunBy told bytes f words sent → (walked : Result Found Stop) → WalkFrom bytes f words sent walked → walked ≡ walked_of told bytes
  walked_one f words sent b (Ok found) x = ended_one (Complete found.length) (Ok found) (ap Ok x.same ∙ found_same f words sent b found.length) (b.leads ∙ x.said)
  walked_one f words sent b (Err stop) x = stopped_one stop (b.leads ∙ x)

-- the verdict that a walk's answer stands for
abbrev pub verdict_in : Result Found Stop → Verdict
verdict_in (Ok found) = Complete found.length
verdict_in (Err stop) = stopped stop

verdict_back : (told : Told) (bytes : List ℕ) (v : Verdict) → verdict_in (walked_for told bytes v) ≡ v
verdict_back told bytes (Complete n) = refl
verdict_back told bytes (Unfinished missing) = refl
verdict_back told bytes (Refused refusal) = refl

pub walk_said : (told : Told) (bytes : List ℕ) (walked : Result Found Stop) → walked ≡ walked_of told bytes → verdict_of told bytes ≡ verdict_in walked
walk_said told bytes walked e = sym (ap verdict_in e ∙ verdict_back told bytes (verdict_of told bytes))
