-- What was fed of a chunk is within it. Assumes nothing.
use Prim.Native.Nat.{ℕ, ◌+◌, ◌-◌, ◌≤◌, ◌<◌}
use mathlib.Core.Path.{◌≡◌}
use mathlib.Core.List.{List}
use native.Mathlib.Omega.{arith}
use lib.ListN.{length, take, drop, length-take}
use Rattle.std.specs.Prelude.{Result}
use Rattle.verdict.specs.declared.Refusal.{Refusal}
use Rattle.report.specs.declared.feed.Fed.{Fed}
use Rattle.report.specs.Feeding.{FedBy}
use Rattle.report.specs.Passing.{taken_in}
use Rattle.report.proofs.Progress.{fed_within}
use Rattle.shelfwork.specs.declared.Work.{Work}
use Rattle.shelfwork.specs.Work.{chunk_end}

pub fed_fits : (work : Work) (chunk line out : List ℕ) (end : ℕ) → end ≡ chunk_end work chunk → work.fed < end → (answer : Result Fed Refusal) (line' out' : List ℕ)
    → FedBy work.state (take (end - work.fed) (drop work.fed chunk)) line out answer line' out' → work.fed + taken_in answer ≤ length chunk
fed_fits work chunk line out end e h answer line' out' f =
    let part = take (end - work.fed) (drop work.fed chunk) in
    let l : length part ≤ end - work.fed = omega (arith, length-take (end - work.fed) (drop work.fed chunk)) in
    omega (arith, l, fed_within work.state part line out answer line' out' f)
