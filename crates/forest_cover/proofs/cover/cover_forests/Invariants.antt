use Rattle.std.proofs.Common.{◌≤◌, ◌-◌, length}
use Rattle.graph_core.specs.Side.{size, IsNonempty}
use Rattle.forest_cover.specs.Dense.{demand}
use Rattle.forest_cover.proofs.cover.cover_forests.Given as goal

abbrev pub invariant-improve : goal.invariant-improve
invariant-improve l = record {
  nonempty : IsNonempty (length l.graph.names) l.side;
  large : 2 ≤ size l.side;
}

abbrev pub decreases-improve : goal.decreases-improve
decreases-improve l = length l.graph.lines - demand l.graph.lines l.side
