-- The first `pair` coefficients and marks are filled in.
use Rattle.std.proofs.Common.{◌≡◌, ◌+◌, ◌*◌, take}
use Rattle.matrix.specs.Meaning.{sum}
use Rattle.unpack.specs.Found.{meaning_found}
use Rattle.verdict.specs.Filling.{over_first}
use Rattle.unpack.proofs.words.fill_sent.Given as goal

abbrev pub invariant-loop-pair : goal.invariant-loop-pair
invariant-loop-pair l =
    (l.place ≡ l.initial.place + sum (take l.pair (meaning_found l.pack.bytes.now l.pack.found).marks) * l.pack.found.fields.clen)
    × (l.coefficients ≡ over_first l.pair (meaning_found l.pack.bytes.now l.pack.found).coefficients l.initial.coefficients) × (l.marks ≡ over_first l.pair (meaning_found l.pack.bytes.now l.pack.found).marks l.initial.marks)
