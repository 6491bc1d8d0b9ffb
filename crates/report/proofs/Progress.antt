-- A call of `feed` takes no more than there is. Assumes nothing.
use Prim.Native.Nat.{ℕ, suc, ◌-◌, ◌≤◌}
use mathlib.Core.Path.{ap}
use mathlib.Core.Bool.{Bool, true, false, cond}
use mathlib.Core.List.{List, [], ◌∷◌}
use native.Mathlib.Omega.{arith}
use lib.Dec.{eqb, ltb}
use lib.ListN.{length}
use Rattle.std.specs.Prelude.{Result}
use Rattle.verdict.specs.declared.Refusal.{Refusal}
use Rattle.verdict.proofs.Cases.{by_test}
use Rattle.lines.specs.Taking.{kept, held_on}
use Rattle.text.specs.Text.{text_of}
use Rattle.text.specs.Writing.{room}
use Rattle.report.specs.declared.feed.State.{State}
use Rattle.report.specs.declared.feed.Fed.{Fed as FedTo}
use Rattle.report.specs.Line.{next_number}
use Rattle.report.specs.Feeding.{held_answer, Came, came_of, Fed, Kept, too_small, FedBy}
use Rattle.report.specs.Passing.{taken_in}

-- what came of a chunk took no more characters than there are
pub came_within : (chunk : List ℕ) (number held left : ℕ) (buffer : List ℕ) → (came_of number held buffer left chunk).taken ≤ length chunk
unfolding came_of
came_within [] number held left buffer = omega arith
came_within (c ∷ chunk) number held left buffer =
    let text = text_of number (held_answer buffer held) in
    by_test (λ (came : Came). came.taken ≤ suc (length chunk)) (eqb c 10) _ _
    (λ _. by_test (λ (came : Came). came.taken ≤ suc (length chunk)) (ltb left room) _ _ (λ _. omega arith) (λ _. omega (arith, came_within chunk (next_number number) 0 (left - length text) buffer)))
    (λ _. omega (arith, came_within chunk number (held_on held) left (kept buffer held c)))

-- a call takes no more than there is
pub fed_within : (state : State) (chunk buffer out : List ℕ) (answer : Result FedTo Refusal) (buffer' out' : List ℕ) → FedBy state chunk buffer out answer buffer' out' → taken_in answer ≤ length chunk
fed_within state chunk buffer out answer buffer' out' = go (too_small buffer out)
  where
    go : (t : Bool) → cond t (Kept buffer out answer buffer' out') (Fed state chunk buffer out answer buffer' out') → taken_in answer ≤ length chunk
    go true k = omega (arith, ap taken_in k.said)
    go false f = omega (arith, ap taken_in f.said, came_within chunk state.number state.held (length out) buffer)
