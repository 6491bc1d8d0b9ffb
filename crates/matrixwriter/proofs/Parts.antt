-- The parts of a pack that is given: that each can be sent, and that they make up its bytes. Assumes nothing.
use Prim.Native.Nat.{ℕ, suc, ◌+◌, ◌*◌, ◌^◌, ◌≤◌, ◌<◌, min}
use mathlib.Core.Path.{◌≡◌, sym, ap, ◌∙◌, subst}
use mathlib.Core.List.{List, [], ◌∷◌, ◌++◌, append_assoc}
use native.Mathlib.Omega.{arith}
use lib.ListN.{length, take, get_or, length-append, length-take}
use lib.Seq.{length-take-le, get_or-take}
use mathlib.Core.Bool.{false}
use Rattle.verdict.specs.Writing.{put}
use Rattle.rule.specs.Rules.{rule_of_deviations, rule_of_coefficients}
use Rattle.rule.proofs.Certain.{keeps_fits, deviation_sound, coefficient_sound, deviation_length, coefficient_length}
use Rattle.matrix.specs.declared.Fields.{Fields}
use Rattle.matrix.specs.Meaning.{Matrix, pairs, sum, nought, Lawful}
use Rattle.matrix.specs.Spelling.{packed, spelled, bytes_of}
use Rattle.matrix.specs.Header.{header_of, header_bytes, vector_bytes}
use Rattle.matrix.proofs.BitVector.{length_packed}
use Rattle.matrix.proofs.ControlBytes.{clen_small, slen_small}
use Rattle.matrix.proofs.Header.{header_length}
use Rattle.matrix.proofs.Decoding.{length_ones, pack_length}
use Rattle.matrix.proofs.Pairs.{pairs_most}
use Rattle.matrix.proofs.WordRuns.{get_D_ones}
use Rattle.matrixcheck.specs.Given.{meaning_given}
use Rattle.matrixcheck.specs.Checking.{Enough}
use Rattle.matrixwriter.specs.Sending.{Sendable, DeviationsFit}
use Rattle.matrixcheck.proofs.Entries.{sent_at}
use Rattle.matrixcheck.proofs.Given.{deviation_here, mark_within}
use Rattle.matrixwriter.proofs.Spelled.{spelled_sent, spelled_front, deviation_bytes}
use Rattle.matrixwriter.proofs.Putting.{behind}

-- marks that are 0 or 1 are at most as many as they are
sum_marks : (marks : List ℕ) → ((i : ℕ) → get_or marks i 0 ≤ 1) → sum marks ≤ length marks
unfolding sum
sum_marks [] h = omega arith
sum_marks (mark ∷ marks) h = omega (arith, h 0, sum_marks marks (λ i. h (suc i)))

module _ (f : Fields) (deviations coefficients marks : List ℕ) where
  abbrev m : Matrix
  m = meaning_given f deviations coefficients marks

  abbrev pair_marks : List ℕ
  pair_marks = take (pairs f.n) marks

  pub given_length : (sent n : ℕ) → sent ≡ sum pair_marks → n ≡ header_bytes f + (vector_bytes f + (f.n * f.slen + sent * f.clen)) → n ≡ length (bytes_of m)
  given_length sent n e h = h ∙ rw e (sym (pack_length m))

  module _ (enough : Enough f deviations coefficients marks) (lawful : Lawful m) where
    pub sent_most : sum pair_marks ≤ 2016
    sent_most = omega (arith, sum_marks pair_marks lawful.values.mark_rule, lawful.values.mark_count, pairs_most f.n lawful.fields.first.size_most)

    pub deviations_sendable : DeviationsFit f deviations
    deviations_sendable =
        record {
          enough = enough.deviations_enough;
          sendable =
              λ some. record {
                short = slen_small f lawful.fields;
                marked = λ i. omega (arith, get_D_ones f.n i);
                fitting =
                    λ i e.
                    let h : i < f.n = omega (arith, get_D_ones f.n i) in
                    let allowed = lawful.fields.deviation_length in
                    let one : min 1 f.slen ≡ 1 = omega arith in
                    let word : get_or m.deviations i 0 ≡ get_or deviations i 0 = deviation_here f deviations coefficients marks i h ∙ rw one in
                    subst (λ (w : ℕ). w < 256 ^ f.slen) word
                    (rw (deviation_length f.sf f.slen allowed) at (keeps_fits (rule_of_deviations f.sf f.slen) (deviation_sound f.sf f.slen allowed) (get_or m.deviations i 0) (lawful.values.deviation_rule i h)));
              };
        }

    pub coefficients_sendable : (p : ℕ) → p ≡ pairs f.n → Sendable f.clen (take p marks) (take p coefficients)
    coefficients_sendable p pe =
        rw pe
        (record {
          short = clen_small f lawful.fields.first;
          marked = lawful.values.mark_rule;
          fitting =
              λ i e.
              let allowed = lawful.fields.first.coefficient_length in
              let inside = mark_within f deviations coefficients marks i e in
              let here : i < pairs f.n = omega (arith, inside, length-take (pairs f.n) marks) in
              let word : get_or m.coefficients i 0 ≡ get_or (take (pairs f.n) coefficients) i 0 = sent_at (nought f) pair_marks coefficients i inside ∙ rw (e, get_or-take (pairs f.n) coefficients i 0 here) in
              subst (λ (w : ℕ). w < 256 ^ f.clen) word
              (rw (coefficient_length f.cf f.clen allowed) at (keeps_fits (rule_of_coefficients f.cf f.clen) (coefficient_sound f.cf f.clen allowed) (get_or m.coefficients i 0) (lawful.values.coefficient_rule i e)));
        })

    -- there are as many as marks
    pub coefficients_marked : (p : ℕ) → p ≡ pairs f.n → length (take p coefficients) ≡ length (take p marks)
    coefficients_marked p pe = rw (pe, length-take-le (pairs f.n) coefficients enough.coefficients_enough, length-take-le (pairs f.n) marks enough.marks_enough)

    pub coefficients_alike : (p : ℕ) → p ≡ pairs f.n → f.cs ≡ false → (i : ℕ) → i < length (take p marks) → get_or (take p marks) i 0 ≡ min 1 f.clen
    coefficients_alike p pe full i h =
        let here : i < pairs f.n = omega (arith, h, length-take p marks) in
        ap (λ (k : ℕ). get_or (take k marks) i 0) pe ∙ lawful.values.all_sent full i here

  -- the parts put one behind the other are the pack
  pub parts_put : (out₀ out₁ out₂ out₃ out₄ : List ℕ) (p start v first second : ℕ) → length (bytes_of m) ≤ length out₀
      → p ≡ pairs f.n → start ≡ header_bytes f → v ≡ vector_bytes f → first ≡ start + v → second ≡ first + f.n * f.slen
      → out₁ ≡ put out₀ 0 (header_of f) → out₂ ≡ put out₁ start (packed v (take p marks)) → out₃ ≡ put out₂ first (deviation_bytes f deviations) → out₄ ≡ put out₃ second (spelled f.clen (take p marks) (take p coefficients))
      → out₄ ≡ put out₀ 0 (bytes_of m)
  parts_put out₀ out₁ out₂ out₃ out₄ p start v first second room pe he ve fe se e₁ e₂ e₃ e₄ =
      let header : List ℕ = header_of f in
      let hl : length (header_of f) ≡ start = header_length f ∙ sym he in
      let vector : List ℕ = packed v (take p marks) in
      let sent : List ℕ = spelled f.clen (take p marks) coefficients in
      let vl : length vector ≡ v = length_packed v (take p marks) in
      let dl : length (deviation_bytes f deviations) ≡ f.n * f.slen = length_ones f.slen f.n m.deviations in
      let all = pack_length m in
      let two = behind out₀ 0 header vector start start out₁ out₂ hl (omega arith) (omega arith) e₁ e₂ in
      let three = behind out₀ 0 (header ++ vector) (deviation_bytes f deviations) (start + v) first out₂ out₃ (length-append header vector ∙ omega arith) (omega arith) (omega arith) two e₃ in
      let four = behind out₀ 0 ((header ++ vector) ++ deviation_bytes f deviations) sent (start + v + f.n * f.slen) second out₃ out₄ (length-append (header ++ vector) (deviation_bytes f deviations) ∙ omega (arith, length-append header vector)) (omega arith) (omega arith) three (e₄ ∙ ap (put out₃ second) (spelled_front f.clen (take p marks) coefficients p (omega (arith, length-take p marks)))) in
      let same : sent ≡ spelled f.clen pair_marks m.coefficients = ap (λ (k : ℕ). spelled f.clen (take k marks) coefficients) pe ∙ sym (spelled_sent f.clen (nought f) pair_marks coefficients) in
      let vectors : vector ≡ packed (vector_bytes f) pair_marks = rw (pe, ve) in
      four ∙ rw (append_assoc (header ++ vector) (deviation_bytes f deviations) sent, append_assoc header vector (deviation_bytes f deviations ++ sent), same, vectors)
