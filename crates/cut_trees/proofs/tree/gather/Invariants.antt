use Rattle.std.proofs.Common.{ℕ, ◌≡◌, List, length}
use Rattle.graph_core.specs.declared.graph.Line.{Line}
use Rattle.cut_trees.specs.Branch.{at}
use Rattle.flow_cuts.specs.NodeCuts.{IsLeastNodeCut}
use Rattle.cut_trees.specs.Turn.{IsTurn, Follows}
use Rattle.cut_trees.proofs.tree.gather.Given as goal

abbrev pub invariant-loop-branch : goal.invariant-loop-branch
invariant-loop-branch l = record {
  long : length l.side ≡ length l.initial.side;
  gathered : (n s w : ℕ) (ls : List Line) (rep : ℕ → ℕ) → IsTurn n s l.t ls (length l.branches) (at l.branches) rep → IsLeastNodeCut n ls s l.t w l.initial.side → IsLeastNodeCut n ls s l.t w l.side × Follows n l.t l.branch-index (at l.branches) l.side;
}
