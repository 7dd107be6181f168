-- The classes of the nodes that lines join.
use Rattle.std.specs.Prelude.{◌≡◌, ℕ, ◌≤◌, ◌==◌, Bool, true, false, List, map, All}
use Rattle.std.specs.List.{filter, range_with_len}
use Rattle.graph_core.specs.Side.{has}
use Rattle.graph_core.specs.Lines.{degree, between}
use Rattle.graph_core.specs.Families.{IsPartition}
use Rattle.graph_core.specs.declared.graph.Line.{Line}
use Rattle.graph_core.specs.Labels.{class}

-- the components of the graph of n nodes with these lines
pub record AreComponents (n : ℕ) (ls : List Line) (P : List (List Bool)) : Type 0 where
  pub partition : IsPartition n P
  -- no line joins two classes
  pub apart : between P ls ≡ 0
  -- a line crosses each side that has a node of a class and lacks another
  pub joined : (X : List Bool) → All (λ C. (u v : ℕ) → has C u ≡ true → has C v ≡ true → has X u ≡ true → has X v ≡ false → 1 ≤ degree X ls) P

-- the classes by labels, each at the node that is its label
abbrev pub classes_of : ℕ → (ℕ → ℕ) → List (List Bool)
classes_of n lab = map (class n lab) (filter (λ r. lab r == r) (range_with_len 0 n))
