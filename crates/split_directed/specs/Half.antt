-- One of a star's two functions, as arcs with capacities and counts of the nodes. No public clause cites it.
use Rattle.std.specs.Prelude.{ℕ, ◌≡◌, ◌<◌, ◌≤◌, Bool, List, length, sum, All}
use Rattle.flow_cuts.specs.NewNode.{value_with}
use Rattle.split_directed.specs.declared.half.Half.{Half}
use Rattle.graph_core.specs.Limits.{line_room, node_room}

-- the capacity that leaves X, and the counts of its nodes
abbrev pub value : Half → List Bool → ℕ
value h X = value_with h.arcs.items h.counts.items X

-- arcs and counts of n nodes, few enough for a flow
pub record IsHalf (n : ℕ) (h : Half) : Type 0 where
  pub nodes : n ≤ node_room
  pub long : length h.counts.items ≡ n
  pub ends : All (λ a. (a.tail < n) × (a.head < n)) h.arcs.items
  pub few : length h.arcs.items ≤ line_room
  pub small : sum h.counts.items ≤ line_room
