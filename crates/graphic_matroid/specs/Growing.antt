-- A forest that grows line by line.
use Rattle.std.specs.Prelude.{◌≡◌, ℕ, ◌<◌, ◌≤◌, Bool, List, length, slice_index}
use Rattle.graph_core.specs.Side.{size}
use Rattle.graph_core.specs.Trees.{IsAcyclic}
use Rattle.graph_core.specs.declared.graph.Line.{Line}
use Rattle.graphic_matroid.specs.Chosen.{chosen}
use Rattle.graphic_matroid.specs.Roots.{AreRoots, AreClasses}

-- the marked lines are a forest of n nodes, and the trees of parents are the classes that they join
pub record IsGrowingForest (n : ℕ) (ls : List Line) (marks : List Bool) (parents ranks : List ℕ) : Type 0 where
  pub long : length marks ≡ length ls
  pub forest : IsAcyclic n (chosen marks ls)
  pub roots : AreRoots n parents ranks
  pub classes : AreClasses n parents (chosen marks ls)
  -- no rank has grown more often than lines were marked
  pub low : (v : ℕ) → v < n → slice_index ranks v ≤ size marks
