-- A graph as a network: capacity 1 along each arc, and both ways along each edge.
use Rattle.std.specs.Prelude.{ℕ, List, [], ◌∷◌}
use Rattle.std.specs.List.{flat_map}
use Rattle.graph_core.specs.declared.graph.Kind.{Kind}
use Rattle.graph_core.specs.declared.graph.Kind.TheVariants.{Undirected, Directed}
use Rattle.graph_core.specs.declared.graph.Line.{Line}
use Rattle.flow_cuts.specs.declared.network.Cap.{Cap}

abbrev pub unit_arc : ℕ → ℕ → Cap
unit_arc u v = record { tail = u; head = v; cap = 1 }

abbrev pub arcs_along : Kind → Line → List Cap
arcs_along Undirected l = unit_arc l.tail l.head ∷ (unit_arc l.head l.tail ∷ [])
arcs_along Directed l = unit_arc l.tail l.head ∷ []

abbrev pub arcs_of : Kind → List Line → List Cap
arcs_of k ls = flat_map (arcs_along k) ls
