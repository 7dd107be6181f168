-- What a flow is seen as: its network and its last run.
use Rattle.std.specs.Prelude.{◌≡◌, ◌≢◌, ℕ, ◌<◌, Bool, List, length, All, Option, Some}
use Rattle.graph_core.specs.Side.{IsOnly}
use Rattle.graph_core.specs.Walks.{IsWalk, AreDisjoint}
use Rattle.graph_core.specs.declared.graph.Kind.{Kind}
use Rattle.graph_core.specs.declared.graph.Line.{Line}
use Rattle.flow_cuts.specs.declared.network.Cap.{Cap}

-- the graph that a network was made of
pub record Origin : Type 0 where
  pub kind : Kind
  pub lines : List Line

-- a run from one side to another, with its limit and its answer
pub record Run : Type 0 where
  pub inside : List Bool
  pub outside : List Bool
  pub stop : ℕ
  pub answer : ℕ

-- how many nodes, the arcs, the graph where they were made of one, and the last run where there was one
pub record FlowValue : Type 0 where
  pub nodes : ℕ
  pub arcs : List Cap
  pub graph : Option Origin
  pub last : Option Run

-- the last run answered less than its limit
abbrev pub FellShort : FlowValue → Type 0
FellShort flow = (r : Run) × (flow.last ≡ Some r) × (r.answer < r.stop)

-- the run went from the one node s to the one other node t
pub record RunsBetween (r : Run) (s t : ℕ) : Type 0 where
  pub from : IsOnly r.inside s
  pub to : IsOnly r.outside t
  pub apart : s ≢ t

-- so many disjoint walks from s to t
pub record AreWalks (graph : Origin) (s t count : ℕ) (walks : List (List ℕ)) : Type 0 where
  pub many : length walks ≡ count
  pub each : All (IsWalk graph.kind graph.lines s t) walks
  pub disjoint : AreDisjoint walks
