-- Nothing came before the first piece; each line that is closed, with the piece behind it, comes nearer to the chunk's end.
use Rattle.report.proofs.Chunks.{piece_end, sofar_none, sofar_piece, sofar_closed, fed_end, fed_full, fed_by}
use Rattle.report.proofs.feed.feed.Goals as goal

pub loop-at-init : goal.loop-at-init
loop-at-init c =
    let a = c.args in
    let none = sofar_none a.state a.chunk.now a.line.now a.out.now in
    let k = c.keep_piece-at in
    (sofar_piece a.state a.chunk.now a.line.now a.out.now _ a.line.now a.out.now none k.result k.new.line k.ensures, piece_end _ k.result a.chunk.now a.line.now k.new.line k.ensures)

pub loop-at-preserved : goal.loop-at-preserved
loop-at-preserved c =
    let a = c.args in
    let l = c.loop-at in
    let d = c.close-closed in
    let k = c.keep_piece-at-in-loop-at in
    let closed = sofar_closed a.state a.chunk.now a.line.now a.out.now l.at l.line l.out l.invariant.0 c.loop-at-test.true (l.invariant.1 c.loop-at-test.true) c.if-out-at-ge-ROOM.true d.result d.new.out d.ensures in
    (sofar_piece a.state a.chunk.now a.line.now a.out.now d.result l.line d.new.out closed k.result k.new.line k.ensures, piece_end d.result k.result a.chunk.now l.line k.new.line k.ensures)

pub returns-else-out-at-ge-ROOM : goal.returns-else-out-at-ge-ROOM
returns-else-out-at-ge-ROOM c =
    let a = c.args in
    let l = c.loop-at in
    fed_by a.state a.chunk.now a.line.now a.out.now c.if-line-out.false _ l.line l.out
    (fed_full a.state a.chunk.now a.line.now a.out.now l.at l.line l.out l.invariant.0 c.loop-at-test.true (l.invariant.1 c.loop-at-test.true) c.if-out-at-ge-ROOM.false)

pub returns-after-loop-at : goal.returns-after-loop-at
returns-after-loop-at c =
    let a = c.args in
    let l = c.loop-at in
    fed_by a.state a.chunk.now a.line.now a.out.now c.if-line-out.false _ l.line l.out
    (fed_end a.state a.chunk.now a.line.now a.out.now l.at l.line l.out l.invariant.0 c.loop-at-test.false)
