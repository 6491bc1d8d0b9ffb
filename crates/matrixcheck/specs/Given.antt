-- What the writer of matrix packs is given: the meaning that it has, and the rules in document 01's order.
use Rattle.std.specs.Prelude.{ℕ, min, Bool, true, not, ◌&&◌, ◌||◌, cond, List, [], ◌∷◌, ◌++◌, length, take, drop, replicate, get_or, eqb, leb, ltb}
use Rattle.verdict.specs.declared.Reason.TheVariants.{Empty, ValueRange, Disagree}
use Rattle.verdict.specs.Rows.{Row}
use Rattle.rule.specs.declared.rules.Rule.{Rule}
use Rattle.rule.specs.Rules.{admitted, rule_of_deviations, rule_of_coefficients}
use Rattle.matrix.specs.declared.Fields.{Fields}
use Rattle.matrix.specs.Meaning.{Matrix, pairs, sum, nought}
use Rattle.matrix.specs.Table.{field_rows}

-- the words whose mark is 1, and this nought where it is 0
unfoldable pub sent_words : ℕ → List ℕ → List ℕ → List ℕ
sent_words none [] words = []
sent_words none (mark ∷ marks) words = cond (eqb mark 0) none (get_or words 0 0) ∷ sent_words none marks (drop 1 words)

-- the marks of N deviations: 1, or 0 if they have no bytes
abbrev pub deviation_marks : Fields → List ℕ
deviation_marks f = replicate f.n (min 1 f.slen)

-- the meaning: the deviations, 0 if they have no bytes; the first M marks, and the coefficients that they send
abbrev pub meaning_given : Fields → List ℕ → List ℕ → List ℕ → Matrix
meaning_given f deviations coefficients marks =
    record {
      fields = f;
      deviations = sent_words 0 (deviation_marks f) deviations;
      marks = take (pairs f.n) marks;
      coefficients = sent_words (nought f) (take (pairs f.n) marks) coefficients;
    }

-- a mark is 0 or 1: not 1 where coefficients have no bytes, not 0 where they have and all are sent
abbrev pub mark_fits : Fields → ℕ → Bool
mark_fits f mark = leb (cond f.cs 0 (min 1 f.clen)) mark && leb mark (min 1 f.clen)

-- the marks fit, each of them
unfoldable pub marks_fit : Fields → List ℕ → Bool
marks_fit f [] = true
marks_fit f (mark ∷ marks) = mark_fits f mark && marks_fit f marks

-- each word that is sent keeps its rule
unfoldable pub sent_fit : Rule → List ℕ → List ℕ → Bool
sent_fit rule [] words = true
sent_fit rule (mark ∷ marks) words = (eqb mark 0 || admitted rule (get_or words 0 0)) && sent_fit rule marks (drop 1 words)

-- Mode 1 has its own formats: mapped coefficients, and deviations as stated
abbrev pub formats_fit : Bool → Fields → Bool
formats_fit mapped f = not f.mode1 || (f.cf && cond mapped f.sf (not f.sf))

-- 14 for others
abbrev pub format_row : Bool → Fields → Row
format_row mapped f = record { broken = not (formats_fit mapped f); reason = Disagree }

-- 14 if a list has fewer than N, M or M entries, or one of the first M marks does not fit
abbrev pub disagree_rows : Fields → List ℕ → List ℕ → List ℕ → List Row
disagree_rows f deviations coefficients marks =
    record { broken = ltb (length deviations) f.n; reason = Disagree }
    ∷ record { broken = ltb (length coefficients) (pairs f.n); reason = Disagree }
    ∷ record { broken = ltb (length marks) (pairs f.n); reason = Disagree }
    ∷ record { broken = not (marks_fit f (take (pairs f.n) marks)); reason = Disagree }
    ∷ []

-- 9 for a sparse pack without values; 11 for a sent word, deviations first
abbrev pub value_rows : Fields → List ℕ → List ℕ → List ℕ → List Row
value_rows f deviations coefficients marks =
    record { broken = f.cs && (eqb f.slen 0 && eqb (sum (take (pairs f.n) marks)) 0); reason = Empty }
    ∷ record { broken = not (sent_fit (rule_of_deviations f.sf f.slen) (deviation_marks f) deviations); reason = ValueRange }
    ∷ record { broken = not (sent_fit (rule_of_coefficients f.cf f.clen) (take (pairs f.n) marks) coefficients); reason = ValueRange }
    ∷ []

-- the rules of what is given, whatever is lent, where Mode 1's deviations are mapped or not: 1 or 2 for N; Clen 6, 16, 7, 8; Slen 6, 16; 9 for no lengths; 14; 9; 11
abbrev pub given_rows : Bool → Fields → List ℕ → List ℕ → List ℕ → List Row
given_rows mapped f deviations coefficients marks =
    field_rows mapped f ++ (format_row mapped f ∷ (disagree_rows f deviations coefficients marks ++ value_rows f deviations coefficients marks))
