-- 25 for a line that ran over, else its characters are decoded and their bytes examined.
use Rattle.std.proofs.Common.{ℕ, ◌/◌, ◌≤◌, List, length, take, sym, ap, ◌∙◌, arith}
use Rattle.std.proofs.lemmas.Bool.{le-ltb}
use Rattle.std.proofs.Math.Seq.{length-take-le}
use Rattle.lines.specs.Taking.{longest_line}
use Rattle.frame.specs.Frame.{answer_of}
use Rattle.hexpairs.proofs.DigitPairs.{decoded_tells, decoded_length}
use Rattle.report.proofs.feed.held_answer.Goals as goal

-- no more characters are held than the longest line has, and the bytes have room for what they spell
short : (line : List ℕ) (held : ℕ) → longest_line ≤ length line → held ≤ longest_line → length (take held line) ≤ longest_line
short line held l h = omega (arith, length-take-le held line (omega arith))

fit : (line bytes : List ℕ) (held : ℕ) → longest_line ≤ length line → 32832 ≤ length bytes → held ≤ longest_line → length (take held line) / 2 ≤ length bytes
fit line bytes held l b h = omega (arith, short line held l h)

pub slice_bounds-examine-end : goal.slice_bounds-examine-end
slice_bounds-examine-end c =
    let a = c.args in
    let room = fit a.line.now a.bytes.now a.held c.requires (omega arith) (omega arith) in
    let said = decoded_tells _ _ room _ _ c.in-Ok.ensures in
    sym (length-take-le _ _ (omega (arith, said.1.0, decoded_length _ _ room _ _ c.in-Ok.ensures, room)))

pub returns-in-Ok : goal.returns-in-Ok
returns-in-Ok c =
    let a = c.args in
    let few = short a.line.now a.held c.requires (omega arith) in
    let said = decoded_tells _ _ (fit a.line.now a.bytes.now a.held c.requires (omega arith) (omega arith)) _ _ c.in-Ok.ensures in
    rw (le-ltb _ _ c.if-held-gt-LINE.false, le-ltb _ _ few, said.0) (c.examine.ensures ∙ ap answer_of said.1.1)

pub returns-in-Err : goal.returns-in-Err
returns-in-Err c =
    let a = c.args in
    let few = short a.line.now a.held c.requires (omega arith) in
    let said = decoded_tells _ _ (fit a.line.now a.bytes.now a.held c.requires (omega arith) (omega arith)) _ _ c.in-Err.ensures in
    rw (le-ltb _ _ c.if-held-gt-LINE.false, le-ltb _ _ few, said.0) c.refuse-in-Err.ensures
