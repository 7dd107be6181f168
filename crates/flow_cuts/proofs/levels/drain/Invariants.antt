use Rattle.std.proofs.Common.{◌≡◌, ◌+◌, ◌-◌, ◌*◌, ◌≤◌, ℕ, List, length}
use Rattle.std.specs.Prelude.{count_by}
use Rattle.flow_cuts.specs.Residual.{EachFits, SameEnds, SameSums}
use Rattle.flow_cuts.specs.declared.network.Cap.{Cap}
use Rattle.flow_cuts.specs.Residual.{IsFlow}
use Rattle.flow_cuts.specs.Search.{mark_at, is_seen}
use Rattle.flow_cuts.proofs.RisingWays.{IsDraining}
use Rattle.flow_cuts.proofs.levels.drain.Given as goal

abbrev pub invariant-loop-sent : goal.invariant-loop-sent
invariant-loop-sent l = record {
  fits : EachFits l.links;
  ends : SameEnds l.fn.links l.links;
  sums : SameSums l.fn.links l.links;
  next : length l.next ≡ length l.course.inside;
  state : IsDraining l.course.inside l.links l.marks l.v;
  root : (mark_at l.marks l.root).level ≡ 0;
  most : l.sent ≤ l.stop;
  flow : (arcs : List Cap) (value : ℕ) → IsFlow (length l.course.inside) l.course.inside l.course.outside arcs l.fn.links value → IsFlow (length l.course.inside) l.course.inside l.course.outside arcs l.links (value + l.sent);
}

abbrev pub decreases-loop-sent : goal.decreases-loop-sent
decreases-loop-sent l = ((l.stop - l.sent) + count_by is_seen l.marks) * 8192 + (8191 - (mark_at l.marks l.v).level)
