-- For private functions alone: what the numbers that C states and gives are taken for, or the refusal of others.
use Rattle.std.specs.Prelude.{ℕ, cond, List, Result, Ok, Err, ltb}
use Rattle.verdict.specs.declared.Reason.TheVariants.{Disagree}
use Rattle.verdict.specs.declared.Refusal.{Refusal}
use Rattle.matrix.specs.declared.Fields.{Fields}
use Rattle.matrix.specs.declared.Told.{Told}
use Rattle.cmatrix.specs.Format.{told_by}
use Rattle.cmatrix.specs.Writing.{fields_given, fields_fit}

-- 14
abbrev pub disagreeing : Refusal
disagreeing = record { reason = Disagree; place = 0 }

-- what a format tells
abbrev pub told_for : ℕ → Result Told Refusal
told_for format = cond (ltb 1 format) (Err disagreeing) (Ok (told_by format))

-- the fields that numbers are
abbrev pub fields_for : List ℕ → Result Fields Refusal
fields_for numbers = cond (fields_fit numbers) (Ok (fields_given numbers)) (Err disagreeing)
