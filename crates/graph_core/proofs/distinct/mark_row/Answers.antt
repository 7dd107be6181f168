use Rattle.std.proofs.Common.{refl}
use Rattle.graph_core.specs.Picked.{mark}
use Rattle.graph_core.proofs.MarkLaws.{mark-twice}
use Rattle.graph_core.proofs.distinct.mark_row.Goals as goal
use Rattle.std.proofs.Common.{get_or}

pub returns-then-marks-place-clause-twice : goal.returns-then-marks-place-clause-twice
returns-then-marks-place-clause-twice c =
    let x = get_or c.args.row.now c.loop-j.j-index 0 in
    (x, c.requires c.loop-j.j-index 0 c.loop-j-test.true, mark-twice x c.loop-j.j-index (mark c.args.marks.now x) c.loop-j.marks c.args.row.now c.loop-j-test.true refl c.if-marks-place.true (c.loop-j.invariant x))
