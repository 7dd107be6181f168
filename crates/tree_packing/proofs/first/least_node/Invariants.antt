use Rattle.std.proofs.Common.{◌≡◌, length}
use Rattle.graph_core.specs.Side.{IsProper}
use Rattle.tree_packing.proofs.Start.{IsLeastBelow}
use Rattle.tree_packing.proofs.first.least_node.Given as goal

abbrev pub invariant-loop-v : goal.invariant-loop-v
invariant-loop-v l = record {
  long : length l.node ≡ l.n;
  proper : IsProper l.n l.least;
  least : IsLeastBelow l.v l.n l.graph.lines l.least;
}
