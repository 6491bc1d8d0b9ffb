-- What the writer of matrix packs answers to C, and what it leaves in the lent bytes.
use Rattle.std.specs.Prelude.{ℕ, Bool, not, ◌&&◌, List, [], ◌∷◌, ◌++◌, length, get_or, eqb, leb, ltb}
use Rattle.verdict.specs.declared.Reason.TheVariants.{Disagree}
use Rattle.verdict.specs.declared.Verdict.{Verdict}
use Rattle.verdict.specs.Rows.{Row}
use Rattle.verdict.specs.Writing.{WrittenBy}
use Rattle.matrix.specs.declared.Fields.{Fields}
use Rattle.matrix.specs.Spelling.{bytes_of}
use Rattle.matrixcheck.specs.Given.{meaning_given}
use Rattle.matrixwriter.specs.Writing.{writer_rows}

-- seven numbers as fields: N, Cs, Cf, Clen, Sf, Slen, the mode
abbrev pub fields_given : List ℕ → Fields
fields_given numbers =
    record {
      n = get_or numbers 0 0;
      cs = eqb (get_or numbers 1 0) 1;
      cf = eqb (get_or numbers 2 0) 1;
      clen = get_or numbers 3 0;
      sf = eqb (get_or numbers 4 0) 1;
      slen = get_or numbers 5 0;
      mode1 = eqb (get_or numbers 6 0) 1;
    }

-- there are seven, Cs, Cf and Sf are each 0 or 1, and the mode is 1 or 2
abbrev pub fields_fit : List ℕ → Bool
fields_fit numbers =
    leb 7 (length numbers)
    && ((leb (get_or numbers 1 0) 1 && (leb (get_or numbers 2 0) 1 && leb (get_or numbers 4 0) 1)) && (leb 1 (get_or numbers 6 0) && leb (get_or numbers 6 0) 2))

-- 14 for another format than 0 or 1, fewer than seven numbers, a flag that is neither yes nor no, or another mode than 1 or 2
abbrev pub number_rows : ℕ → List ℕ → List Row
number_rows format numbers = record { broken = ltb 1 format; reason = Disagree } ∷ record { broken = not (fields_fit numbers); reason = Disagree } ∷ []

-- by these rules, and then as the writer of matrix packs
abbrev pub MatrixWritten : ℕ → List ℕ → List ℕ → List ℕ → List ℕ → List ℕ → Verdict → List ℕ → Type 0
MatrixWritten format numbers deviations coefficients marks out =
    WrittenBy
    (number_rows format numbers ++ writer_rows (eqb format 1) (fields_given numbers) deviations coefficients marks out)
    (bytes_of (meaning_given (fields_given numbers) deviations coefficients marks))
    out
    0
