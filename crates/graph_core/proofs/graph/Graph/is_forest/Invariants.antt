use Rattle.std.proofs.Common.{length, take}
use Rattle.graph_core.specs.Picked.{picked}
use Rattle.graph_core.specs.Trees.{IsAcyclic}
use Rattle.graph_core.proofs.ForestRows.{AreLabels}
use Rattle.graph_core.proofs.graph.Graph.is_forest.Given as goal

abbrev pub invariant-loop-j : goal.invariant-loop-j
invariant-loop-j l = record {
  labels : AreLabels (length l.self.names) l.labels.items (picked l.self.lines (take l.j-index l.row));
  forest : IsAcyclic (length l.self.names) (picked l.self.lines (take l.j-index l.row));
}
