-- A star as a network: the graph's edges in both directions, and an arc from each node to the new one. No public clause cites it.
use Rattle.std.specs.Prelude.{ℕ, ◌≡◌, ◌+◌, ◌*◌, ◌<◌, ◌≤◌, Bool, true, List, [], ◌∷◌, length, sum, slice_index, All}
use Rattle.graph_core.specs.Limits.{line_room, node_room}
use Rattle.graph_core.specs.Side.{has, IsProper}
use Rattle.graph_core.specs.Graph.{Fits}
use Rattle.graph_core.specs.Lines.{degree}
use Rattle.graph_core.specs.declared.graph.Line.{Line}
use Rattle.cut_fn.specs.Covered.{IsCovered}
use Rattle.flow_cuts.specs.declared.network.Cap.{Cap}
use Rattle.flow_cuts.specs.Network.{capacity}
use Rattle.split_undirected.specs.Rows.{star_value}

-- q edges of u and v
abbrev pub both_ways : ℕ → ℕ → ℕ → List Cap
both_ways u v q = record { tail = u; head = v; cap = q } ∷ (record { tail = v; head = u; cap = q } ∷ [])

-- arcs and counts are those of a k-covered star of n nodes with the lines ls, and they are few enough for a flow
pub record IsStarNet (n k : ℕ) (ls : List Line) (arcs : List Cap) (counts : List ℕ) : Type 0 where
  pub long : length counts ≡ n
  pub nodes : n ≤ node_room
  pub few : length arcs + sum counts ≤ 2 * line_room
  pub ends : All (λ a. (a.tail < n) × (a.head < n)) arcs
  pub fit : All (Fits n) ls
  pub same : (X : List Bool) → capacity X arcs ≡ degree X ls
  pub covered : IsCovered n k (star_value ls (slice_index counts))

-- a proper side with u and v of too small a value for more than q pairs
pub record IsBlock (n k : ℕ) (f : List Bool → ℕ) (u v q : ℕ) (Z : List Bool) : Type 0 where
  pub proper : IsProper n Z
  pub first : has Z u ≡ true
  pub second : has Z v ≡ true
  pub value : f Z ≤ k + 2 * q + 1
