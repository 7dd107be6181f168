-- The limits of a graph.
use Rattle.std.specs.Prelude.{ℕ}
use Rattle.word_sides.specs.Limits.{most_values}

-- the most bytes of a name
abbrev pub most_bytes : ℕ
most_bytes = 32

-- the most nodes and lines that the solvers are made for
abbrev pub most_nodes : ℕ
most_nodes = 128

abbrev pub most_lines : ℕ
most_lines = 2048

-- the most nodes and lines that a graph has room for, with those that a solver adds
abbrev pub node_room : ℕ
node_room = 4096

abbrev pub line_room : ℕ
line_room = 65536

-- the greatest number of a node, and the most that all of them add up to
abbrev pub most_number : ℕ
most_number = 8192

abbrev pub most_numbers : ℕ
most_numbers = 65536

-- the greatest cost of a line, and the most that all lines of a text cost
abbrev pub most_cost : ℕ
most_cost = 100

abbrev pub most_costs : ℕ
most_costs = 4000

-- the greatest connectivity that is asked for
abbrev pub most_k : ℕ
most_k = 32

-- the most truth values of a side
abbrev pub side_room : ℕ
side_room = most_values
