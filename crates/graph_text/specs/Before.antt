-- What stands before a line of a graph text: the earlier lines, filtered.
use Rattle.std.specs.Prelude.{ℕ, Bool, false, List, [], ◌∷◌, map, sum_by, slice_get}
use Rattle.std.specs.declared.option.Option.{Option}
use Rattle.std.specs.List.{flat_map, list_any}
use Rattle.std.specs.Str.{bytes_eq}
use Rattle.graph_core.specs.declared.graph.Kind.{Kind}
use Rattle.graph_text.specs.Numbers.{value, arc_cost}
use Rattle.graph_text.specs.Said.{Said, Skipped, Header, Node, Edge, Arc, End, Other}

-- a line between two nodes, by their names, with its cost
pub record Ends : Type 0 where
  pub tail : List ℕ
  pub head : List ℕ
  pub fixed : Bool
  pub cost : ℕ

-- the kinds of graph that a line declares, none or one
abbrev pub headers_on : Said → List Kind
headers_on Skipped = []
headers_on (Header kind) = kind ∷ []
headers_on (Node name number) = []
headers_on (Edge tail head) = []
headers_on (Arc tail head fixed cost) = []
headers_on End = []
headers_on Other = []

-- the nodes that a line declares, none or one
abbrev pub nodes_on : Said → List (List ℕ)
nodes_on Skipped = []
nodes_on (Header kind) = []
nodes_on (Node name number) = name ∷ []
nodes_on (Edge tail head) = []
nodes_on (Arc tail head fixed cost) = []
nodes_on End = []
nodes_on Other = []

-- the words for a node's number on a line, none or one
abbrev pub number_words_on : Said → List (List ℕ)
number_words_on Skipped = []
number_words_on (Header kind) = []
number_words_on (Node name number) = number ∷ []
number_words_on (Edge tail head) = []
number_words_on (Arc tail head fixed cost) = []
number_words_on End = []
number_words_on Other = []

abbrev pub numbers_on : Said → List ℕ
numbers_on said = map value (number_words_on said)

-- the words for an arc's cost on a line, none or one
abbrev pub cost_words_on : Said → List (List ℕ)
cost_words_on Skipped = []
cost_words_on (Header kind) = []
cost_words_on (Node name number) = []
cost_words_on (Edge tail head) = []
cost_words_on (Arc tail head fixed cost) = cost ∷ []
cost_words_on End = []
cost_words_on Other = []

-- the costs of the arcs that a line declares, none or one
abbrev pub costs_on : Said → List ℕ
costs_on Skipped = []
costs_on (Header kind) = []
costs_on (Node name number) = []
costs_on (Edge tail head) = []
costs_on (Arc tail head fixed cost) = arc_cost fixed cost ∷ []
costs_on End = []
costs_on Other = []

-- the edges and arcs that a line declares, none or one
abbrev pub ends_on : Said → List Ends
ends_on Skipped = []
ends_on (Header kind) = []
ends_on (Node name number) = []
ends_on (Edge tail head) = record { tail = tail; head = head; fixed = false; cost = 1 } ∷ []
ends_on (Arc tail head fixed cost) = record { tail = tail; head = head; fixed = fixed; cost = arc_cost fixed cost } ∷ []
ends_on End = []
ends_on Other = []

-- the kind, the names and the numbers of the nodes, and the lines between them, by names
pub record Content : Type 0 where
  pub kind : Option Kind
  pub names : List (List ℕ)
  pub numbers : List ℕ
  pub ends : List Ends

-- what these lines declare, in their order
abbrev pub content_of : List Said → Content
content_of lines = record {
  kind = slice_get (flat_map headers_on lines) 0;
  names = flat_map nodes_on lines;
  numbers = flat_map numbers_on lines;
  ends = flat_map ends_on lines;
}

-- what lines cost together
abbrev pub cost_of : List Ends → ℕ
cost_of all = sum_by (λ ends. ends.cost) all

-- whether a node has the name
abbrev pub is_known : Content → List ℕ → Bool
is_known content name = list_any (bytes_eq name) content.names
