-- Networks in which the capacity that leaves a side counts the arcs that leave it, and those of a list that enter it. No public clause cites it.
use Rattle.std.specs.Prelude.{ℕ, ◌≤◌, List, ◌++◌, map, length, All}
use Rattle.graph_core.specs.Limits.{line_room}
use Rattle.graph_core.specs.Graph.{GraphValue, Fits}
use Rattle.graph_core.specs.declared.graph.Line.{Line}
use Rattle.problem_defs.specs.declared.cert.Way.TheVariants.{Entering}
use Rattle.flow_cuts.specs.NewNode.{arc_by}
use Rattle.flow_cuts.specs.declared.network.Cap.{Cap}

-- capacity c along the arc
abbrev pub along : ℕ → Line → Cap
along c l = record { tail = l.tail; head = l.head; cap = c }

-- capacity 1 back along some arcs, and c along others
abbrev pub arcs_with : ℕ → List Line → List Line → List Cap
arcs_with c ls arcs = map (arc_by Entering) arcs ++ map (along c) ls

-- arcs between nodes of a graph, no more than a graph may have
pub record AreArcs (g : GraphValue) (arcs : List Line) : Type 0 where
  pub few : length arcs ≤ line_room
  pub fit : All (Fits (length g.names)) arcs
