use Rattle.std.proofs.Common.{◌≡◌, length}
use Rattle.std.specs.Prelude.{slice_index}
use Rattle.cut_trees.specs.Branch.{at}
use Rattle.cut_trees.specs.Grown.{IsGrown}
use Rattle.cut_trees.proofs.tree.cut_tree.Given as goal

abbrev pub invariant-loop-s : goal.invariant-loop-s
invariant-loop-s l = record {
  same : l.cuts.graph.now ≡ l.graph;
  long : length l.reps.items ≡ length l.graph.names;
  grown : IsGrown (length l.graph.names) l.s l.graph.lines (length l.branches.items) (at l.branches.items) (slice_index l.reps.items);
}
