-- Unpacking, then scaling, by the contracts of the calls that C has: the mapped coefficients of a pack scale without a refusal, and each one not sent scales to 0. Assumes nothing.
use Prim.Native.Nat.{ℕ, suc, ◌-◌, ◌/◌, ◌^◌, ◌≤◌, ◌<◌}
use mathlib.Core.Path.{◌≡◌, sym, ap, subst, ◌∙◌}
use mathlib.Core.Bool.{Bool, true, false, cond}
use mathlib.Core.List.{List}
use native.Mathlib.Omega.{arith}
use borrow.Author.Tests.{eqb-true, eqb-false, le-leb, leb-true}
use contract.Lifetimes.{Lfts}
use borrow.Fn.Kinds.{Dens, res_t, ended_of}
use denote.Triple.Clauses.{AtExit}
use lib.Dec.{eqb, ltb, leb}
use lib.IntN.{ℤ, pos}
use lib.ListN.{length, take, drop, get_or}
use lib.Seq.{take_at}
use Rattle.verdict.specs.declared.Reason.TheVariants.{Disagree}
use Rattle.verdict.specs.declared.Verdict.{Verdict}
use Rattle.verdict.specs.declared.Verdict.TheVariants.{Complete, Unfinished, Refused}
use Rattle.verdict.specs.Says.{Bytes}
use Rattle.verdict.specs.Lent.{left_for}
use Rattle.verdict.specs.Numbers.{packed_of}
use Rattle.verdict.specs.Writing.{refusing}
use Rattle.verdict.proofs.Cases.{either}
use Rattle.word.specs.Many.{all_below}
use Rattle.word.proofs.Gathered.{all_below_lem}
use Rattle.std.specs.Prelude.{Ok}
use Rattle.rule.specs.Rules.{Keeps, allowed, mapped_rule, rule_of_coefficients}
use Rattle.rule.specs.Scaled.{scaled_of}
use Rattle.matrix.specs.Meaning.{Matrix, pairs, Lawful, LawfulValues}
use Rattle.matrix.specs.Spelling.{meaning_of}
use Rattle.matrix.specs.Machine.{verdict_of}
use Rattle.matrix.proofs.Complete.{complete_meaning}
use Rattle.matrix.proofs.Pairs.{pairs_most}
use Rattle.unpack.specs.Unpacking.{unpack_short}
use Rattle.cmatrix.specs.Format.{told_by, verdict_by, UnpackedUnder}
use Rattle.cwords.specs.Scaling.{ScaledInto}
use Rattle.cwords.proofs.Scaling.{value_in}
use Rattle.cwords.proofs.Answers.{scaled_count, scaled_each, scaled_behind}
use Rattle.theorems.specs.Scaled.{ScaledAs}
use Rattle.theorems.proofs.MatrixTrip.{said_complete}
use Rattle.theorems.proofs.Noughts.{nought_scaled}
use Rattle.cmatrix.proofs.matrix_unpack.Kinds as matrix-unpack
use Rattle.cmatrix.proofs.matrix_unpack.Reads as matrix-unpack-reads
use Rattle.cwords.proofs.matrix_scale.Kinds as matrix-scale
use Rattle.cwords.proofs.matrix_scale.Reads as matrix-scale-reads

-- a mapped word keeps its rule where it is at most half of the words of its length
mapped_most : (n word : ℕ) → Keeps (mapped_rule n) word → word ≤ 256 ^ n / 2
mapped_most n word k = let e : leb 0 word ≡ true = le-leb 0 word (omega arith) in let h : word - 0 ≤ 256 ^ n / 2 = rw e at k in omega arith

-- ---- a lawful matrix whose coefficients are mapped, of 1 to 8 bytes

module _ (m : Matrix) (l : Lawful m) (mapped : m.fields.cf ≡ true) (least : 1 ≤ m.fields.clen) (most : m.fields.clen ≤ 8) where
  abbrev n : ℕ
  n = m.fields.clen

  abbrev v : LawfulValues m
  v = l.values

  word_most : (i : ℕ) → i < pairs m.fields.n → get_or m.coefficients i 0 ≤ 256 ^ n / 2
  word_most i h =
      either (eqb (get_or m.marks i 0) 0)
      (λ t. let none : get_or m.coefficients i 0 ≡ 256 ^ n / 4 = v.not_sent i h (eqb-true (get_or m.marks i 0) 0 t) ∙ rw mapped in omega arith)
      (λ t. mapped_most n (get_or m.coefficients i 0)
      (subst (λ (b : Bool). Keeps (rule_of_coefficients b n) (get_or m.coefficients i 0)) mapped (v.coefficient_rule i (omega (arith, v.mark_rule i, eqb-false (get_or m.marks i 0) 0 t)))))

  words_scale : all_below (suc (256 ^ n / 2)) m.coefficients ≡ true
  words_scale = all_below_lem (suc (256 ^ n / 2)) m.coefficients (λ i h. omega (arith, word_most i (omega (arith, v.coefficient_count))))

  pub matrix_scaled : (out : List ℤ) → pairs m.fields.n ≤ length out → (answer : Verdict) (out' : List ℤ) → ScaledInto m.coefficients n out answer out' → (number : ℕ) → number ≡ packed_of answer → ScaledAs m out number out'
  matrix_scaled out room answer out' s number e =
      let count = v.coefficient_count in
      let enough : length m.coefficients ≤ length out = omega arith in
      let each : (i : ℕ) → i < pairs m.fields.n → scaled_of (get_or m.coefficients i 0) n ≡ Ok (get_or out' i (pos 0)) =
      λ i h. scaled_each m.coefficients n least most words_scale out enough answer out' s i (omega arith) in
      record {
        answered = e ∙ ap packed_of (scaled_count m.coefficients n least most words_scale out enough answer out' s) ∙ omega (arith, count, pairs_most m.fields.n l.fields.first.size_most);
        each = each;
        not_sent = λ i h none. ap value_in (sym (each i h) ∙ ap (λ (w : ℕ). scaled_of w n) (v.not_sent i h none) ∙ nought_scaled m.fields mapped least most);
        behind = subst (λ (k : ℕ). drop k out' ≡ drop k out) count (scaled_behind m.coefficients n least most words_scale out enough answer out' s);
      }

-- ---- through the calls

-- what a format lets be complete is complete to the reader that is told it
own_complete : (format : ℕ) (bytes : List ℕ) (k : ℕ) → verdict_by format bytes ≡ Complete k → verdict_of (told_by format) bytes ≡ Complete k
own_complete format bytes k e = go (ltb 1 format) e
  where
    go : (t : Bool) → cond t (refusing Disagree) (verdict_of (told_by format) bytes) ≡ Complete k → verdict_of (told_by format) bytes ≡ Complete k
    go true h = let z : ◌≡◌ {A = ℕ} 0 1 = cc in absurd (omega arith)
    go false h = h

-- what is left of the coefficients where unpacking is complete
module _ (format : ℕ) (bytes ds cs ms : List ℕ) (b : Bytes bytes) (k : ℕ) (ds' cs' ms' : List ℕ) (u : UnpackedUnder format bytes ds cs ms (Complete k) ds' cs' ms') where
  abbrev meant : Matrix
  meant = meaning_of (told_by format) bytes

  whole : verdict_of (told_by format) bytes ≡ Complete k
  whole = own_complete format bytes k (said_complete (verdict_by format bytes) (unpack_short meant.fields.n ds cs ms) k (sym u.said))

  lawful_meant : Lawful meant
  lawful_meant = (complete_meaning (told_by format) bytes b k whole).0

  coefficients_left : take (pairs meant.fields.n) cs' ≡ meant.coefficients
  coefficients_left =
      ap (take (pairs meant.fields.n)) (u.left_coefficients ∙ ap (λ (w : Verdict). left_for w meant.coefficients cs) (sym u.said))
      ∙ take_at meant.coefficients (drop (length meant.coefficients) cs) (pairs meant.fields.n) lawful_meant.values.coefficient_count

-- the first M coefficients that `matrix_unpack` left, given to `matrix_scale` with their length and room for them
pub unpack_then_scale : (κs : Lfts 4) (a : Dens κs matrix-unpack.ps) (number : (res_t matrix-unpack.r κs).Denot) (s : AtExit (ended_of 4 matrix-unpack.ps matrix-unpack.r) κs)
    → Bytes a.0.now → matrix-unpack-reads.Post κs a number s → number < 2 ^ 32
    → (meaning_of (told_by a.1.0) a.0.now).fields.cf ≡ true → 1 ≤ (meaning_of (told_by a.1.0) a.0.now).fields.clen
    → (κs' : Lfts 2) (a' : Dens κs' matrix-scale.ps) (number' : (res_t matrix-scale.r κs').Denot) (s' : AtExit (ended_of 2 matrix-scale.ps matrix-scale.r) κs')
    → a'.0.now ≡ take (pairs (meaning_of (told_by a.1.0) a.0.now).fields.n) s.1.1.1.0.now
    → a'.1.0 ≡ (meaning_of (told_by a.1.0) a.0.now).fields.clen → pairs (meaning_of (told_by a.1.0) a.0.now).fields.n ≤ length a'.1.1.0.now
    → matrix-scale-reads.Post κs' a' number' s' → ScaledAs (meaning_of (told_by a.1.0) a.0.now) a'.1.1.0.now number' s'.1.1.0.now
unpack_then_scale κs a number s b post complete mapped least κs' a' number' s' words length' room scaled = go post.answer post.given post.packed
  where
    go : (answer : Verdict) → UnpackedUnder a.1.0 a.0.now a.1.1.0.now a.1.1.1.0.now a.1.1.1.1.0.now answer s.1.1.0.now s.1.1.1.0.now s.1.1.1.1.0.now → number ≡ packed_of answer
        → ScaledAs (meaning_of (told_by a.1.0) a.0.now) a'.1.1.0.now number' s'.1.1.0.now
    go (Unfinished missing) u e = absurd (omega arith)
    go (Refused refusal) u e = absurd (omega arith)
    go (Complete k) u e =
        let bytes = a.0.now in
        let m = meaning_of (told_by a.1.0) bytes in
        let l = lawful_meant a.1.0 bytes _ _ _ b k _ _ _ u in
        let most : m.fields.clen ≤ 8 = leb-true m.fields.clen 8 (subst (λ (t : Bool). allowed t m.fields.clen ≡ true) mapped l.fields.first.coefficient_length) in
        let given : ScaledInto m.coefficients m.fields.clen a'.1.1.0.now scaled.answer s'.1.1.0.now =
        subst (λ (n : ℕ). ScaledInto m.coefficients n a'.1.1.0.now scaled.answer s'.1.1.0.now) length'
        (subst (λ (w : List ℕ). ScaledInto w a'.1.0 a'.1.1.0.now scaled.answer s'.1.1.0.now) (words ∙ coefficients_left a.1.0 bytes _ _ _ b k _ _ _ u) scaled.given) in
        matrix_scaled m l mapped least most a'.1.1.0.now room scaled.answer s'.1.1.0.now given number' scaled.packed
