use Rattle.std.proofs.Common.{◌<◌, ℕ, List, Bool, length}
use Rattle.flow_cuts.specs.declared.network.Cap.{Cap}
use Rattle.flow_cuts.specs.Residual.{EachFits, SameEnds, SameSums}
use Rattle.flow_cuts.specs.Residual.{IsFlow}
use Rattle.flow_cuts.specs.Search.{mark_at, IsOpenWay}
use Rattle.flow_cuts.proofs.Pushes.{IsUnderWay}
use Rattle.flow_cuts.proofs.levels.push_way.Given as goal

abbrev pub invariant-loop-v : goal.invariant-loop-v
invariant-loop-v l = record {
  node : l.v < length l.inside;
  way : IsOpenWay l.links l.inside l.marks l.amount (mark_at l.marks l.v).level l.v;
  fits : EachFits l.links;
  ends : SameEnds l.fn.links l.links;
  sums : SameSums l.fn.links l.links;
  sent : (outside : List Bool) (arcs : List Cap) (value : ℕ) → IsFlow (length l.inside) l.inside outside arcs l.fn.links value →
      IsUnderWay (length l.inside) l.inside outside arcs l.links value l.amount l.end l.v;
}

abbrev pub decreases-loop-v : goal.decreases-loop-v
decreases-loop-v l = (mark_at l.marks l.v).level
