-- The plain text of a graph.
use Rattle.std.specs.Prelude.{ℕ, ◌≤◌, ◌≡◌, ◌==◌, Bool, true, false, List, ◌++◌, map, sum_by, codes, if◌then◌else◌}
use Rattle.std.specs.List.{flat_map, zip}
use Rattle.std.specs.Fmt.{decimal}
use Rattle.graph_core.specs.Limits.{most_costs}
use Rattle.graph_core.specs.Graph.{GraphValue}
use Rattle.graph_core.specs.declared.graph.Kind.{Kind}
use Rattle.graph_core.specs.declared.graph.Kind.TheVariants.{Undirected, Directed}
use Rattle.graph_text.specs.Before.{Ends}
use Rattle.graph_text.specs.Text.{ends_in}

abbrev pub header_line : Kind → List ℕ
header_line Undirected = codes "graph undirected\n"
header_line Directed = codes "graph directed\n"

-- a number is written where it isn't 0
abbrev pub number_end : ℕ → List ℕ
number_end number = if number == 0 then codes "\n" else codes " " ++ (decimal number ++ codes "\n")

-- a node by its name and its number
abbrev pub node_line : List ℕ × ℕ → List ℕ
node_line node = codes "node " ++ (node.0 ++ number_end node.1)

abbrev pub keyword : Kind → List ℕ
keyword Undirected = codes "edge "
keyword Directed = codes "arc "

-- a cost is written where it isn't 1
abbrev pub cost_end : ℕ → List ℕ
cost_end cost = if cost == 1 then codes "\n" else codes " cost " ++ (decimal cost ++ codes "\n")

abbrev pub line_end : Bool → ℕ → List ℕ
line_end false cost = cost_end cost
line_end true cost = codes " fixed\n"

-- an edge or an arc by the names of its ends
abbrev pub ends_line : Kind → Ends → List ℕ
ends_line kind ends = keyword kind ++ (ends.tail ++ (codes " " ++ (ends.head ++ line_end ends.fixed ends.cost)))

abbrev pub plain_text : GraphValue → List ℕ
plain_text g = header_line g.kind ++ (flat_map node_line (zip g.names g.numbers) ++ (flat_map (ends_line g.kind) (map (ends_in g.names) g.lines) ++ codes "end\n"))

-- what the arcs cost together is within what a text may have
abbrev pub HasFewCosts : GraphValue → Type 0
HasFewCosts g = g.kind ≡ Directed → sum_by (λ line. line.cost) g.lines ≤ most_costs
