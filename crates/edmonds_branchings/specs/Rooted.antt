-- Packings of branchings with roots (Edmonds 1973).
use Rattle.std.specs.Prelude.{ℕ, ◌≡◌, ◌+◌, ◌<◌, ◌≤◌, ◌==◌, List, Bool, length, slice_index, count_by, All}
use Rattle.graph_core.specs.Side.{sum_over, IsNonempty}
use Rattle.graph_core.specs.Lines.{entering}
use Rattle.graph_core.specs.Picked.{picked}
use Rattle.graph_core.specs.Trees.{in_degree, IsBranching}
use Rattle.graph_core.specs.Walks.{AreDisjoint}
use Rattle.graph_core.specs.declared.graph.Line.{Line}

-- how many of the rows have no arc with head v, and so begin at v
abbrev pub beginning_at : ℕ → List Line → List (List ℕ) → ℕ
beginning_at v ls rows = count_by (λ row. in_degree v (picked ls row) == 0) rows

-- Edmonds' condition: at least k - roots(X) arcs enter each nonempty X, one for each branching that can't begin in it
pub record CanBePacked (n k : ℕ) (ls : List Line) (roots : List ℕ) : Type 0 where
  pub long : length roots ≡ n
  pub entered : (X : List Bool) → IsNonempty n X → k ≤ entering X ls + sum_over X (slice_index roots)

-- k branchings, no arc in two, of which at most roots(v) begin at each node v
pub record ArePacked (n k : ℕ) (ls : List Line) (roots : List ℕ) (rows : List (List ℕ)) : Type 0 where
  pub many : length rows ≡ k
  pub each : All (IsBranching n ls) rows
  pub disjoint : AreDisjoint rows
  pub begin : (v : ℕ) → v < n → beginning_at v ls rows ≤ slice_index roots v
