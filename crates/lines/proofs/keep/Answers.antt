-- Past the longest line none is kept; else the front of the piece that has room.
use Rattle.std.proofs.Common.{◌+◌, ◌-◌, ◌≡◌, min, ◌∙◌, sym, arith, length, take}
use lib.Seq.{length-take-le}
use Rattle.verdict.proofs.Putting.{put_none, put_part}
use Rattle.lines.specs.Taking.{longest_line}
use Rattle.lines.proofs.Keeping.{kept_all_lem}
use Rattle.lines.proofs.keep.Goals as goal

pub returns-then-held-ge-LINE : goal.returns-then-held-ge-LINE
returns-then-held-ge-LINE c =
    let a = c.args in
    let none : min (length a.piece.now) (longest_line - a.held) ≡ 0 = omega arith in
    sym (kept_all_lem a.line.now a.held a.piece.now c.requires ∙ rw none (put_none a.line.now a.held))

pub returns : goal.returns
returns c =
    let a = c.args in
    let left = c.copy_from_slice.new.self in
    let count : c.min-count.result ≡ min (length a.piece.now) (longest_line - a.held) = omega arith in
    let as_many : length (take c.min-count.result a.piece.now) ≡ c.min-count.result = length-take-le c.min-count.result a.piece.now (omega arith) in
    rw (c.copy_from_slice.ensures.after, put_part a.line.now a.held (a.held + c.min-count.result) (take c.min-count.result a.piece.now) (omega (arith, as_many)), count) (sym (kept_all_lem a.line.now a.held a.piece.now c.requires))
