-- The array is all there, or what is missing of it is told.
use Rattle.std.proofs.Common.{◌∙◌, ◌*◌}
use Rattle.array.proofs.Drawing.{body_cut}
use Rattle.arraywalk.proofs.Walking.{array_found}
use Rattle.arraywalk.proofs.from_array.Goals as goal

pub returns-then-bytes-length : goal.returns-then-bytes-length
returns-then-bytes-length c =
    let a = c.args in
    c.requires.leads ∙ body_cut a.bytes.now (a.heading.sized.product * a.heading.element) a.heading.start c.requires.within c.if-bytes-length.true

pub returns : goal.returns
returns c = let a = c.args in array_found a.bytes.now a.heading c.requires c.if-bytes-length.false
