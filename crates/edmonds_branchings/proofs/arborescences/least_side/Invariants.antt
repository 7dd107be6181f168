use Rattle.std.proofs.Common.{◌≡◌, length, map}
use Rattle.problem_defs.specs.declared.cert.Way.TheVariants.{Entering}
use Rattle.flow_cuts.specs.NewNode.{arc_by}
use Rattle.edmonds_branchings.proofs.LeastSide.{IsLeastBelow}
use Rattle.edmonds_branchings.proofs.arborescences.least_side.Given as goal

abbrev pub invariant-loop-v : goal.invariant-loop-v
invariant-loop-v l = record {
  nodes : l.flow.nodes ≡ length l.graph.names;
  arcs : l.flow.arcs ≡ map (arc_by Entering) l.graph.lines;
  long : length l.inside ≡ length l.graph.names;
  least : IsLeastBelow (length l.graph.names) l.v l.graph.lines l.root l.value l.least;
}
