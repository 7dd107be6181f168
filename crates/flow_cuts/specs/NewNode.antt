-- Networks with a new node, to which each node has an arc.
use Rattle.std.specs.Prelude.{◌*◌, ℕ, suc, ◌<◌, ◌≤◌, Bool, List, [], ◌∷◌, ◌++◌, length, All}
use Rattle.graph_core.specs.Limits.{line_room}
use Rattle.graph_core.specs.declared.graph.Line.{Line}
use Rattle.problem_defs.specs.declared.cert.Way.{Way}
use Rattle.problem_defs.specs.declared.cert.Way.TheVariants.{Entering, Leaving}
use Rattle.flow_cuts.specs.GraphArcs.{unit_arc}
use Rattle.flow_cuts.specs.Network.{capacity}
use Rattle.flow_cuts.specs.StarValues.{with_counts}
use Rattle.flow_cuts.specs.declared.network.Cap.{Cap}

-- an arc of a digraph, turned round where the arcs that enter a side are to leave it
abbrev pub arc_by : Way → Line → Cap
arc_by Entering l = unit_arc l.head l.tail
arc_by Leaving l = unit_arc l.tail l.head

-- an arc to node z from each node from v on, with the node's count for its capacity
abbrev pub count_arcs : ℕ → ℕ → List ℕ → List Cap
count_arcs z v [] = []
count_arcs z v (c ∷ cs) = record { tail = v; head = z; cap = c } ∷ count_arcs z (suc v) cs

-- the network with one node more than there are counts
abbrev pub with_new_node : List Cap → List ℕ → List Cap
with_new_node arcs counts = arcs ++ count_arcs (length counts) 0 counts

-- the capacity that leaves a side without the new node, where each node has an arc to it with its count for the capacity
abbrev pub value_with : List Cap → List ℕ → List Bool → ℕ
value_with arcs counts = with_counts (λ X. capacity X arcs) counts

-- arcs among n nodes, few enough for a network with a new node
pub record AreArcs (n : ℕ) (arcs : List Cap) : Type 0 where
  pub few : length arcs ≤ 2 * line_room
  pub ends : All (λ a. (a.tail < n) × (a.head < n)) arcs
