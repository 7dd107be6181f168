-- The digraph turned round, with one node more that the roots lead to. No public clause cites it.
use Rattle.std.specs.Prelude.{ℕ, ◌≡◌, ◌+◌, ◌-◌, ◌<◌, ◌≤◌, List, length, map, slice_get, slice_index_or, slice_set, All, Some}
use Rattle.graph_core.specs.declared.graph.Line.{Line}
use Rattle.problem_defs.specs.declared.cert.Way.TheVariants.{Entering}
use Rattle.flow_cuts.specs.NewNode.{arc_by, with_new_node}
use Rattle.flow_cuts.specs.declared.network.Cap.{Cap}

abbrev pub network_of : List Line → List ℕ → List Cap
network_of ls roots = with_new_node (map (arc_by Entering) ls) roots

abbrev pub no_arc : Cap
no_arc = record { tail = 0; head = 0; cap = 0 }

abbrev pub cap_at : List Cap → ℕ → Cap
cap_at arcs j = slice_index_or arcs j no_arc

-- the arcs after arc j was taken once
abbrev pub taken : List Cap → ℕ → List Cap
taken arcs j = slice_set arcs j (record (cap_at arcs j) { cap = (cap_at arcs j).cap - 1 })

-- all tails are nodes, and all heads are nodes or the last one
abbrev pub AreEnds : ℕ → List Cap → Type 0
AreEnds n arcs = All (λ a. (a.tail < n) × (a.head ≤ n)) arcs

-- what is left of the network of a digraph: its arcs, then an arc from each node
pub record IsLeft (n : ℕ) (ls : List Line) (arcs : List Cap) : Type 0 where
  pub long : length arcs ≡ length ls + n
  pub lines : (j : ℕ) (l : Line) → slice_get ls j ≡ Some l → ((cap_at arcs j).tail ≡ l.head) × ((cap_at arcs j).head ≡ l.tail)
  pub roots : (v : ℕ) → v < n → ((cap_at arcs (length ls + v)).tail ≡ v) × ((cap_at arcs (length ls + v)).head ≡ n)
