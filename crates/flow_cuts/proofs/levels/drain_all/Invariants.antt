use Rattle.std.proofs.Common.{◌≡◌, ◌+◌, ◌≤◌, ℕ, List, length}
use Rattle.flow_cuts.specs.Residual.{EachFits, SameEnds, SameSums}
use Rattle.flow_cuts.specs.declared.network.Cap.{Cap}
use Rattle.flow_cuts.specs.Residual.{IsFlow}
use Rattle.flow_cuts.specs.Search.{IsLevelled}
use Rattle.flow_cuts.proofs.levels.drain_all.Given as goal

abbrev pub invariant-loop-root : goal.invariant-loop-root
invariant-loop-root l = record {
  fits : EachFits l.links;
  ends : SameEnds l.fn.links l.links;
  sums : SameSums l.fn.links l.links;
  next : length l.next ≡ length l.course.inside;
  levelled : IsLevelled (length l.course.inside) l.course.inside l.marks;
  most : l.sent ≤ l.stop;
  flow : (arcs : List Cap) (value : ℕ) → IsFlow (length l.course.inside) l.course.inside l.course.outside arcs l.fn.links value → IsFlow (length l.course.inside) l.course.inside l.course.outside arcs l.links (value + l.sent);
}
