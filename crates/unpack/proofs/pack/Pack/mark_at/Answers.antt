-- A bit of the vector.
use Rattle.std.proofs.Common.{ℕ, ◌+◌, ◌-◌, ◌/◌, ◌%◌, ◌^◌, ◌∙◌, ap, sym, get_or}
use Rattle.matrix.proofs.Values.{mark_sparse}
use Rattle.unpack.proofs.Filling.{vector_within}
use Rattle.unpack.proofs.pack.Pack.mark_at.Goals as goal

pub returns-then-self : goal.returns-then-self
returns-then-self c =
    let a = c.args in
    let pack = a.self in
    let bytes = pack.bytes.now in
    sym (mark_sparse pack.found.fields bytes a.pair c.requires.1 c.if-self.true (vector_within bytes pack.found pack.whole) ∙ ap (λ (start : ℕ). get_or bytes (start + a.pair / 8) 0 / 2 ^ (7 - a.pair % 8) % 2) (sym c.requires.0))
