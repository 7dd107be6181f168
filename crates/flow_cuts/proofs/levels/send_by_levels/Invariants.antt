use Rattle.std.proofs.Common.{◌≡◌, ◌≤◌, ◌-◌, ◌+◌, ℕ, List, length}
use Rattle.flow_cuts.specs.declared.network.Cap.{Cap}
use Rattle.flow_cuts.specs.Residual.{EachFits, SameEnds, SameSums}
use Rattle.flow_cuts.specs.declared.network.Cap.{Cap}
use Rattle.flow_cuts.specs.Residual.{IsFlow}
use Rattle.flow_cuts.proofs.levels.send_by_levels.Given as goal

abbrev pub invariant-loop-sent : goal.invariant-loop-sent
invariant-loop-sent l = record {
  fits : EachFits l.links;
  ends : SameEnds l.fn.links l.links;
  sums : SameSums l.fn.links l.links;
  marks : length l.tree.marks.items ≡ length l.course.inside;
  queue : length l.tree.queue.items ≡ length l.course.inside;
  next : length l.next ≡ length l.course.inside;
  most : l.sent ≤ l.stop;
  flow : (arcs : List Cap) (value : ℕ) → IsFlow (length l.course.inside) l.course.inside l.course.outside arcs l.fn.links value → IsFlow (length l.course.inside) l.course.inside l.course.outside arcs l.links (value + l.sent);
}

abbrev pub decreases-loop-sent : goal.decreases-loop-sent
decreases-loop-sent l = l.stop - l.sent
