-- Reading what was written gives what was given, and writing what was read gives the same bytes. Assumes nothing.
use Prim.Native.Nat.{ℕ, ◌-◌, ◌≤◌, ◌<◌, min}
use mathlib.Core.Path.{◌≡◌, refl, ap, ◌∙◌, sym, subst}
use mathlib.Core.Bool.{Bool, true, false, cond}
use mathlib.Core.Logic.{◌↔◌}
use mathlib.Core.List.{List, ◌++◌}
use native.Mathlib.Omega.{arith}
use borrow.Author.Tests.{eqb-true, ltb-false, le-ltb, le-leb}
use lib.Dec.{eqb, leb}
use lib.ListN.{length, take, drop, get_or, length-append, length-replicate, get_or-replicate, get_or-append}
use lib.Seq.{take_at, ext_get_or}
use Rattle.verdict.specs.declared.Verdict.{Verdict}
use Rattle.verdict.specs.declared.Verdict.TheVariants.{Complete, Unfinished, Refused}
use Rattle.verdict.specs.Says.{Bytes}
use Rattle.verdict.specs.Writing.{room_rows, WrittenBy}
use Rattle.verdict.proofs.Cases.{either}
use Rattle.verdict.proofs.Deciding.{kept_both, both_kept, written_complete, kept_written}
use Rattle.verdict.proofs.Judging.{Kept}
use Rattle.rule.specs.Rules.{Keeps, rule_of_deviations}
use Rattle.matrix.specs.declared.Fields.{Fields}
use Rattle.matrix.specs.declared.Told.{Told}
use Rattle.matrix.specs.Meaning.{Matrix, pairs, nought, Lawful, LawfulValues, stating, Fits}
use Rattle.matrix.specs.Spelling.{bytes_of, meaning_of}
use Rattle.matrix.specs.Machine.{verdict_of}
use Rattle.theorems.proofs.MatrixVerdicts.{matrix_complete}
use Rattle.matrix.proofs.Decoding.{meaning_back}
use Rattle.matrix.proofs.Complete.{complete_meaning, complete_count}
use Rattle.unpack.specs.Unpacking.{unpack_short, UnpackedFor, UnpackedBy}
use Rattle.verdict.specs.Lent.{over, said_for, left_for}
use Rattle.matrixcheck.specs.Given.{sent_words, deviation_marks, meaning_given, given_rows}
use Rattle.matrixwriter.specs.Writing.{writer_rows}
use Rattle.matrixcheck.specs.Checking.{Enough}
use Rattle.matrixcheck.proofs.Entries.{length_sent, sent_at}
use Rattle.matrixcheck.proofs.Given.{given_lawful, lawful_given}

module _ (mapped : Bool) (f : Fields) (deviations coefficients marks out : List ℕ) where
  abbrev given : Matrix
  given = meaning_given f deviations coefficients marks

  -- a writer accepts exactly what has a lawful meaning, in its mode's formats, and room
  pub writer_accepts : Kept (writer_rows mapped f deviations coefficients marks out) ↔ (Enough f deviations coefficients marks × (Lawful given × (Fits (stating mapped) f × (length (bytes_of given) ≤ length out))))
  writer_accepts = (
    λ k.
        let b = both_kept (given_rows mapped f deviations coefficients marks) (room_rows (length (bytes_of given)) (length out)) k in
        let g = given_lawful f deviations coefficients marks mapped b.0 in
        (g.0, (g.1, (g.2, ltb-false (length out) (length (bytes_of given)) b.1.0))),
    λ x.
        kept_both (given_rows mapped f deviations coefficients marks) (room_rows (length (bytes_of given)) (length out)) (lawful_given f deviations coefficients marks x.1.0 mapped x.1.1.0 x.0) (le-ltb (length out) (length (bytes_of given)) x.1.1.1, tt),
  )

  -- what was written is complete at its count, and means what was given, whatever stands behind it, to a reader that is told the same
  pub written_means : (n : ℕ) (out' : List ℕ) → WrittenBy (writer_rows mapped f deviations coefficients marks out) (bytes_of given) out 0 (Complete n) out'
      → (verdict_of (stating mapped) out' ≡ Complete n) × (meaning_of (stating mapped) out' ≡ given)
  written_means n out' w =
      let told = stating mapped in
      let c = written_complete (writer_rows mapped f deviations coefficients marks out) (bytes_of given) out n out' w in
      let x = writer_accepts.0 c.0 in
      let l : Lawful given = x.1.0 in
      let fits : Fits told f = x.1.1.0 in
      let there : verdict_of told (bytes_of given ++ drop n out) ≡ Complete (length (bytes_of given)) = matrix_complete told (bytes_of given) (drop n out) (record { meaning = given; lawful = l; fits = fits; spelled = refl }) in
      (ap (verdict_of told) c.1.1 ∙ there ∙ ap Complete (sym c.1.0), ap (meaning_of told) c.1.1 ∙ meaning_back told given l fits (drop n out))

  -- so unpacking it fills the lists with what was given, and with noughts for what was not sent
  pub written_unpacked : (n : ℕ) (out' : List ℕ) → WrittenBy (writer_rows mapped f deviations coefficients marks out) (bytes_of given) out 0 (Complete n) out'
      → (ds cs ms : List ℕ) (answer : Verdict) (ds' cs' ms' : List ℕ) → UnpackedBy (stating mapped) out' ds cs ms answer ds' cs' ms' → UnpackedFor (Complete n) given ds cs ms answer ds' cs' ms'
  written_unpacked n out' w ds cs ms answer ds' cs' ms' u =
      let e = written_means n out' w in
      subst (λ (v : Verdict). UnpackedFor v given ds cs ms answer ds' cs' ms') e.0
      (subst (λ (m : Matrix). UnpackedFor (verdict_of (stating mapped) out') m ds cs ms answer ds' cs' ms') e.1 u)

-- ---- a lawful meaning is what its own values mean, whatever stands behind them in the lists

-- in no bytes only the word 0 keeps its rule
keeps_zero : (mapped : Bool) (word : ℕ) → Keeps (rule_of_deviations mapped 0) word → word ≡ 0
keeps_zero true word k = let e : leb 0 word ≡ true = le-leb 0 word (omega arith) in let h : word - 0 ≤ 0 = rw e at k in omega arith
keeps_zero false word k = let e : leb 0 word ≡ true = le-leb 0 word (omega arith) in let h : word - 0 ≤ 0 = rw e at k in omega arith

module _ (m : Matrix) (l : Lawful m) (behind_deviations behind_coefficients behind_marks : List ℕ) where
  abbrev f : Fields
  f = m.fields

  abbrev v : LawfulValues m
  v = l.values

  abbrev ds : List ℕ
  ds = m.deviations ++ behind_deviations

  abbrev cs : List ℕ
  cs = m.coefficients ++ behind_coefficients

  abbrev ms : List ℕ
  ms = m.marks ++ behind_marks

  deviation_same : (i : ℕ) → i < f.n → get_or (sent_words 0 (deviation_marks f) ds) i 0 ≡ get_or m.deviations i 0
  deviation_same i h =
      let there : get_or ds i 0 ≡ get_or m.deviations i 0 = get_or-append m.deviations behind_deviations 0 i (rw v.deviation_count h) in
      let here : get_or (sent_words 0 (deviation_marks f) ds) i 0 ≡ cond (eqb (min 1 f.slen) 0) 0 (get_or m.deviations i 0) =
      sent_at 0 (deviation_marks f) ds i (rw length-replicate h) ∙ rw (get_or-replicate {A = ℕ} f.n i (min 1 f.slen) 0 h, there) in
      either (eqb (min 1 f.slen) 0)
      (λ z.
      let none : f.slen ≡ 0 = omega (arith, eqb-true (min 1 f.slen) 0 z) in
      let word : get_or m.deviations i 0 ≡ 0 = keeps_zero f.sf (get_or m.deviations i 0) (subst (λ (k : ℕ). Keeps (rule_of_deviations f.sf k) (get_or m.deviations i 0)) none (v.deviation_rule i h)) in
      here ∙ rw z (sym word))
      (λ z. here ∙ rw z)

  marks_same : take (pairs f.n) ms ≡ m.marks
  marks_same = take_at m.marks behind_marks (pairs f.n) v.mark_count

  coefficient_same : (i : ℕ) → i < pairs f.n → get_or (sent_words (nought f) m.marks cs) i 0 ≡ get_or m.coefficients i 0
  coefficient_same i h =
      let there : get_or cs i 0 ≡ get_or m.coefficients i 0 = get_or-append m.coefficients behind_coefficients 0 i (rw v.coefficient_count h) in
      let here : get_or (sent_words (nought f) m.marks cs) i 0 ≡ cond (eqb (get_or m.marks i 0) 0) (nought f) (get_or m.coefficients i 0) =
      sent_at (nought f) m.marks cs i (rw v.mark_count h) ∙ rw there in
      either (eqb (get_or m.marks i 0) 0)
      (λ z. here ∙ rw z (sym (v.not_sent i h (eqb-true (get_or m.marks i 0) 0 z))))
      (λ z. here ∙ rw z)

  pub meaning_again : meaning_given f ds cs ms ≡ m
  meaning_again =
      let d : sent_words 0 (deviation_marks f) ds ≡ m.deviations =
      ext_get_or {A = ℕ} 0 (sent_words 0 (deviation_marks f) ds) m.deviations (length_sent 0 (deviation_marks f) ds ∙ length-replicate f.n (min 1 f.slen) ∙ sym v.deviation_count)
      (λ i h. deviation_same i (rw (← length-replicate f.n (min 1 f.slen), ← length_sent 0 (deviation_marks f) ds) h)) in
      let c : sent_words (nought f) (take (pairs f.n) ms) cs ≡ m.coefficients =
      ap (λ (marks : List ℕ). sent_words (nought f) marks cs) marks_same
      ∙ ext_get_or {A = ℕ} 0 (sent_words (nought f) m.marks cs) m.coefficients (length_sent (nought f) m.marks cs ∙ v.mark_count ∙ sym v.coefficient_count)
      (λ i h. coefficient_same i (rw (← v.mark_count, ← length_sent (nought f) m.marks cs) h)) in
      λ i. record { fields = f; deviations = d i; marks = marks_same i; coefficients = c i }

  enough_again : Enough f ds cs ms
  enough_again =
      record {
        deviations_enough = simp length-append (omega (arith, v.deviation_count));
        coefficients_enough = simp length-append (omega (arith, v.coefficient_count));
        marks_enough = simp length-append (omega (arith, v.mark_count));
      }

  -- its writer writes its bytes
  pub written_again : (mapped : Bool) → Fits (stating mapped) f → (out : List ℕ) (answer : Verdict) (out' : List ℕ) → length (bytes_of m) ≤ length out → WrittenBy (writer_rows mapped f ds cs ms out) (bytes_of (meaning_given f ds cs ms)) out 0 answer out'
      → (answer ≡ Complete (length (bytes_of m))) × (out' ≡ bytes_of m ++ drop (length (bytes_of m)) out)
  written_again mapped fits out answer out' room w =
      let k = (writer_accepts mapped f ds cs ms out).1 (enough_again, (subst Lawful (sym meaning_again) l, (fits, subst (λ (q : Matrix). length (bytes_of q) ≤ length out) (sym meaning_again) room))) in
      subst (λ (q : Matrix). (answer ≡ Complete (length (bytes_of q))) × (out' ≡ bytes_of q ++ drop (length (bytes_of q)) out)) meaning_again
      (kept_written (writer_rows mapped f ds cs ms out) (bytes_of (meaning_given f ds cs ms)) out answer out' k w)

-- ---- bytes that are read, unpacked and written

-- what an answer of unpacking that is complete tells
pub said_complete : (v : Verdict) (short : Bool) (n : ℕ) → said_for v short ≡ Complete n → v ≡ Complete n
said_complete (Complete k) true n e = let z : ◌≡◌ {A = ℕ} 0 1 = cc in absurd (omega arith)
said_complete (Complete k) false n e = e
said_complete (Unfinished k) short n e = let z : ◌≡◌ {A = ℕ} 0 1 = cc in absurd (omega arith)
said_complete (Refused r) short n e = let z : ◌≡◌ {A = ℕ} 0 1 = cc in absurd (omega arith)

-- what fits under what was told fits where its format is stated
told_stating : (told : Told) (f : Fields) → Fits told f → Fits (stating told.mapped) f
told_stating told f fits one =
    let m = fits one in
    record { let_in = refl; coefficient_format = m.coefficient_format; deviation_format = m.deviation_format; coefficient_room = m.coefficient_room; deviation_room = m.deviation_room }

-- writing the fields and the unpacked lists of bytes, with the format that was told, gives the same bytes
pub unpacked_written : (told : Told) (bytes xs ys zs xs' ys' zs' : List ℕ) (n : ℕ) → Bytes bytes → UnpackedBy told bytes xs ys zs (Complete n) xs' ys' zs'
    → (out : List ℕ) (answer : Verdict) (out' : List ℕ) → n ≤ length out → WrittenBy (writer_rows told.mapped (meaning_of told bytes).fields xs' ys' zs' out) (bytes_of (meaning_given (meaning_of told bytes).fields xs' ys' zs')) out 0 answer out'
    → (answer ≡ Complete n) × (out' ≡ take n bytes ++ drop n out)
unpacked_written told bytes xs ys zs xs' ys' zs' n b u out answer out' room w =
    let m = meaning_of told bytes in
    let rows = writer_rows told.mapped m.fields in
    let short = unpack_short m.fields.n xs ys zs in
    let said : said_for (verdict_of told bytes) short ≡ Complete n = sym u.said in
    let whole : verdict_of told bytes ≡ Complete n = said_complete (verdict_of told bytes) short n said in
    let c = complete_meaning told bytes b n whole in
    let counted : length (bytes_of m) ≡ n = complete_count told bytes b n whole in
    let d : xs' ≡ over m.deviations xs = u.left_deviations ∙ ap (λ (v : Verdict). left_for v m.deviations xs) said in
    let e : ys' ≡ over m.coefficients ys = u.left_coefficients ∙ ap (λ (v : Verdict). left_for v m.coefficients ys) said in
    let k : zs' ≡ over m.marks zs = u.left_marks ∙ ap (λ (v : Verdict). left_for v m.marks zs) said in
    let same : WrittenBy (rows (over m.deviations xs) (over m.coefficients ys) (over m.marks zs) out) (bytes_of (meaning_given m.fields (over m.deviations xs) (over m.coefficients ys) (over m.marks zs))) out 0 answer out' =
    subst (λ (x : List ℕ). WrittenBy (rows x (over m.coefficients ys) (over m.marks zs) out) (bytes_of (meaning_given m.fields x (over m.coefficients ys) (over m.marks zs))) out 0 answer out') d
    (subst (λ (x : List ℕ). WrittenBy (rows xs' x (over m.marks zs) out) (bytes_of (meaning_given m.fields xs' x (over m.marks zs))) out 0 answer out') e
    (subst (λ (x : List ℕ). WrittenBy (rows xs' ys' x out) (bytes_of (meaning_given m.fields xs' ys' x)) out 0 answer out') k w)) in
    let r =
    written_again m c.0 (drop (length m.deviations) xs) (drop (length m.coefficients) ys) (drop (length m.marks) zs) told.mapped (told_stating told m.fields c.1) out answer out' (omega arith) same in
    (r.0 ∙ ap Complete counted, r.1 ∙ ap (λ (k : ℕ). bytes_of m ++ drop k out) counted ∙ ap (λ (w : List ℕ). w ++ drop n out) c.2)
