use Rattle.std.proofs.Common.{◌≡◌, length, All}
use Rattle.graph_core.specs.Graph.{GraphValue, Fits}
use Rattle.problem_defs.specs.CutTree.{IsCutTree}
use Rattle.graph_core.specs.Pairs.{AreIn}
use Rattle.cut_trees.specs.Order.{IsSearched}
use Rattle.cut_trees.proofs.order.search_from.Given as goal

abbrev pub invariant-loop-i : goal.invariant-loop-i
invariant-loop-i l = record {
  long : length l.reached ≡ length l.fn.reached;
  same : length l.pairs ≡ length l.fn.pairs;
  nodes : AreIn (length l.fn.reached) l.pairs;
  searched : (g : GraphValue) → All (Fits (length g.names)) g.lines → length l.fn.reached ≡ length g.names → IsCutTree g l.fn.pairs → IsSearched g l.fn.pairs l.u l.pairs l.i l.reached;
}
