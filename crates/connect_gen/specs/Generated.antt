-- Graphs made from a number.
use Rattle.std.specs.Prelude.{ℕ, ◌+◌, ◌-◌, ◌*◌, List, ◌++◌, map, min, max, cond, nat_le, codes, decimal}
use Rattle.std.specs.List.{range_with_len}
use Rattle.graph_core.specs.Graph.{GraphValue, line_of, no_numbers}
use Rattle.graph_core.specs.declared.graph.Kind.{Kind}
use Rattle.graph_core.specs.declared.graph.Line.{Line}
use Rattle.connect_gen.specs.Draws.{draw}

-- the names n1, n2 and so on
abbrev pub node_name : ℕ → List ℕ
node_name v = codes "n" ++ decimal (v + 1)

abbrev pub node_names : ℕ → List (List ℕ)
node_names nodes = map node_name (range_with_len 0 nodes)

-- the line that joins node i to an earlier one, by draw i
abbrev pub tree_line : ℕ → ℕ → Line
tree_line number i = line_of (draw number i i, i)

-- the line between node a and the node whose place is c among the others, from the smaller to the larger
abbrev pub chord : ℕ → ℕ → Line
chord a c = let b = cond (nat_le a c) (c + 1) c in line_of (min a b, max a b)

-- further line j, by the two draws that are next: the tree took nodes - 1, and each further line before this one two
abbrev pub further_line : ℕ → ℕ → ℕ → Line
further_line number nodes j = chord (draw number (nodes + 2 * j) nodes) (draw number (nodes + 2 * j + 1) (nodes - 1))

-- a line from an earlier node into each node but the first, and three further lines a node
abbrev pub generated_lines : ℕ → ℕ → List Line
generated_lines number nodes =
    map (tree_line number) (range_with_len 1 (nodes - 1)) ++ map (further_line number nodes) (range_with_len 0 (3 * nodes))

-- the graph that a kind, a number of nodes and a number make; its nodes have no numbers of their own
abbrev pub generated : Kind → ℕ → ℕ → GraphValue
generated kind nodes number = record { kind = kind; names = node_names nodes; lines = generated_lines number nodes; numbers = no_numbers nodes }
