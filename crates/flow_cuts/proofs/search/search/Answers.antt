use Rattle.std.proofs.Common.{◌≡◌, length, arith}
use Rattle.std.specs.Prelude.{slice_index}
use Rattle.flow_cuts.proofs.SearchTrees.{IsRow-of, IsDone-more, IsClosedTree-done, seen_below, place_in, count_le}
use Rattle.flow_cuts.proofs.search.search.Goals as goal

pub row-requires : goal.row-requires
row-requires c =
    let t = c.loop-done.tree in
    let f = c.loop-done.invariant.filled in
    let is : c.index-v.result.now ≡ slice_index t.queue.items c.loop-done.done = place_in t.queue.items c.loop-done.done c.index-v.result.now (omega (arith, count_le _ _ _ _ f, f.queue_len)) c.index-v.ensures in
    let seen = seen_below t.marks.items (slice_index t.queue.items c.loop-done.done) (f.seen c.loop-done.done (omega arith)) in
    omega (arith, seen, f.marks_len, c.requires.network.rows_len)

pub expand-requires-clause-row : goal.expand-requires-clause-row
expand-requires-clause-row c =
    let t = c.loop-done.tree in
    let f = c.loop-done.invariant.filled in
    let is : c.index-v.result.now ≡ slice_index t.queue.items c.loop-done.done = place_in t.queue.items c.loop-done.done c.index-v.result.now (omega (arith, count_le _ _ _ _ f, f.queue_len)) c.index-v.ensures in
    rw (c.row.ensures, f.marks_len, is)
    (IsRow-of (length c.args.inside.now) c.args.links.now c.args.steps.now t.marks.items (slice_index t.queue.items c.loop-done.done) c.requires.network (f.seen c.loop-done.done (omega arith)))

pub loop-done-preserved : goal.loop-done-preserved
loop-done-preserved c =
    let t = c.loop-done.tree in
    let f = c.loop-done.invariant.filled in
    let is : c.index-v.result.now ≡ slice_index t.queue.items c.loop-done.done = place_in t.queue.items c.loop-done.done c.index-v.result.now (omega (arith, count_le _ _ _ _ f, f.queue_len)) c.index-v.ensures in
    record {
      filled = rw (← f.marks_len) c.expand.ensures.filled;
      roots = λ v h. c.expand.ensures.grows.seen v (c.loop-done.invariant.roots v h);
      forest = c.expand.ensures.forest _ c.loop-done.invariant.forest;
      done = IsDone-more c.args.links.now c.args.steps.now _ _ _ _ _ _ c.loop-done.done c.index-v.result.now c.loop-done.invariant.done c.expand.ensures.grows c.loop-done-test.true is
          (rw c.row.ensures at c.expand.ensures.looked);
      within = omega (arith, c.expand.ensures.grows.more);
    }

pub returns-clause-searched : goal.returns-clause-searched
returns-clause-searched c =
    let i = c.loop-done.invariant in
    record {
      len = i.filled.marks_len;
      low = λ v seen. omega (arith, i.filled.low v seen, count_le _ _ _ _ i.filled, c.requires.network.fits);
      roots = i.roots;
      forest = i.forest;
      closed = IsClosedTree-done (length c.args.inside.now) c.args.links.now c.args.steps.now c.loop-done.tree.marks.items c.loop-done.tree.queue.items c.loop-done.tree.count c.loop-done.done
          c.requires.network i.filled i.done (omega arith);
    }
