-- Rules in their order, each with its reason: those of one byte, or of what a writer is given.
use Rattle.std.specs.Prelude.{◌≡◌, Bool, cond, List, [], ◌∷◌}
use Rattle.verdict.specs.declared.Reason.{Reason}
use Rattle.verdict.specs.Machine.{Move, bad}

-- a rule that is broken or not, and its reason
pub record Row : Type 0 where
  pub broken : Bool
  pub reason : Reason

-- the reason of the first broken rule is this one
unfoldable pub Blamed : List Row → Reason → Type 0
Blamed [] reason = ⊥
Blamed (row ∷ rows) reason = cond row.broken (row.reason ≡ reason) (Blamed rows reason)

-- a byte is refused by the first broken rule, or makes this move
unfoldable pub judged : {S : Type 0} → List Row → Move S → Move S
judged [] next = next
judged (row ∷ rows) next = cond row.broken (bad row.reason) (judged rows next)
