-- Graphs.
use Rattle.std.specs.Prelude.{◌≡◌, ◌≢◌, ℕ, ◌<◌, ◌≤◌, true, false, List, ◌++◌, map, length, replicate, sum, All, AllPairs}
use Rattle.graph_core.specs.Limits.{most_nodes, most_lines, node_room, line_room, most_number, most_numbers, most_cost}
use Rattle.graph_core.specs.Name.{IsName}
use Rattle.graph_core.specs.declared.graph.Kind.{Kind}
use Rattle.graph_core.specs.declared.graph.Kind.TheVariants.{Undirected}
use Rattle.graph_core.specs.declared.graph.Line.{Line}

-- what a graph is seen as: its kind, the names and the numbers of its nodes, and its lines
pub record GraphValue : Type 0 where
  pub kind : Kind
  pub names : List (List ℕ)
  pub lines : List Line
  pub numbers : List ℕ

-- two different ends among n nodes
pub record Fits (n : ℕ) (l : Line) : Type 0 where
  pub tail : l.tail < n
  pub head : l.head < n
  pub apart : l.tail ≢ l.head

-- a cost within its limit: edges and fixed arcs cost 1
pub record IsPriced (kind : Kind) (l : Line) : Type 0 where
  pub most : l.cost ≤ most_cost
  pub edge : kind ≡ Undirected → l.cost ≡ 1
  pub fixed : l.fixed ≡ true → l.cost ≡ 1

-- numbers for n nodes
pub record AreNumbers (n : ℕ) (numbers : List ℕ) : Type 0 where
  pub long : length numbers ≡ n
  pub most : All (λ x. x ≤ most_number) numbers
  pub total : sum numbers ≤ most_numbers

-- what a kind, names, lines and numbers have to meet to make a graph
pub record MakesGraph (g : GraphValue) : Type 0 where
  pub some : 1 ≤ length g.names
  pub nodes : length g.names ≤ node_room
  pub few : length g.lines ≤ line_room
  pub distinct : AllPairs (λ a b. a ≢ b) g.names
  pub ends : All (Fits (length g.names)) g.lines
  pub free : g.kind ≡ Undirected → All (λ l. l.fixed ≡ false) g.lines
  pub priced : All (IsPriced g.kind) g.lines
  pub numbered : AreNumbers (length g.names) g.numbers

-- what holds of every graph: what makes a graph, and that its names are names
pub record IsGraph (g : GraphValue) : Type 0 where
  pub makes : MakesGraph g
  pub named : All IsName g.names

-- the size that the solvers are made for
pub record IsWithinSize (g : GraphValue) : Type 0 where
  pub nodes : length g.names ≤ most_nodes
  pub lines : length g.lines ≤ most_lines

-- the number 0 for each of n nodes
abbrev pub no_numbers : ℕ → List ℕ
no_numbers n = replicate n 0

-- pairs of nodes as lines of cost 1 that aren't fixed
abbrev pub line_of : ℕ × ℕ → Line
line_of p = record { tail = p.0; head = p.1; fixed = false; cost = 1 }

abbrev pub lines_of : List (ℕ × ℕ) → List Line
lines_of pairs = map line_of pairs

-- the graph with these lines behind its own
abbrev pub with_lines : GraphValue → List Line → GraphValue
with_lines g more = record { kind = g.kind; names = g.names; lines = g.lines ++ more; numbers = g.numbers }

-- what stands where there is no line
abbrev pub no_line : Line
no_line = record { tail = 0; head = 0; fixed = false; cost = 0 }
