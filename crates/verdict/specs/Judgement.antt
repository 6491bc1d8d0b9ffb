-- What judging by rules in their order answers.
use Rattle.std.specs.Prelude.{cond, List, [], ◌∷◌, Result, Ok, Err}
use Rattle.verdict.specs.Rows.{Row}
use Rattle.verdict.specs.declared.Reason.{Reason}

-- all are kept, or the first broken rule's reason
abbrev pub judgement : List Row → Result Unit Reason
judgement [] = Ok tt
judgement (row ∷ rows) = cond row.broken (Err row.reason) (judgement rows)
