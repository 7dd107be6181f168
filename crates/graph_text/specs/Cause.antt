-- The faults of a line, in their order.
use Rattle.std.specs.Prelude.{ℕ, ◌+◌, Bool, true, false, not, ◌&&◌, ◌||◌, ◌==◌, nat_le, nat_lt, sum, List, [], ◌∷◌, length, is_some}
use Rattle.std.specs.declared.option.Option.{Option}
use Rattle.std.specs.declared.option.Option.TheVariants.{None, Some}
use Rattle.std.specs.List.{find, list_any, list_all}
use Rattle.std.specs.Str.{bytes_eq}
use Rattle.graph_core.specs.Limits.{most_cost, most_costs, most_lines, most_nodes, most_number, most_numbers}
use Rattle.graph_core.specs.Name.{is_name_byte}
use Rattle.graph_core.specs.declared.graph.Kind.{Kind}
use Rattle.graph_core.specs.declared.graph.Kind.TheVariants.{Undirected, Directed}
use Rattle.graph_text.specs.declared.refusal.Why.{Why}
use Rattle.graph_text.specs.declared.refusal.Why.TheVariants.{NoHeader, BadLine, BadName, BadNumber, TwiceNode, UnknownNode, Loop, WrongKind, NoNode, NoEnd, ManyNodes, ManyLines, ManyNumbers, ManyCosts}
use Rattle.graph_text.specs.Said.{Said, Skipped, Header, Node, Edge, Arc, End, Other}
use Rattle.graph_text.specs.Numbers.{is_number}
use Rattle.graph_text.specs.Before.{Ends, Content, nodes_on, number_words_on, numbers_on, cost_words_on, costs_on, ends_on, cost_of, is_known}

-- 1 to 32 letters, digits, underscores, dots and dashes
abbrev pub is_name : List ℕ → Bool
is_name word = nat_le 1 (length word) && (nat_le (length word) 32 && list_all is_name_byte word)

-- whether a header was read
abbrev pub has_begun : Content → Bool
has_begun content = is_some content.kind

-- neither skipped nor a header
abbrev pub wants_header : Said → Bool
wants_header Skipped = false
wants_header (Header kind) = false
wants_header (Node name number) = true
wants_header (Edge tail head) = true
wants_header (Arc tail head fixed cost) = true
wants_header End = true
wants_header Other = true

-- neither skipped nor an item
abbrev pub is_no_item : Said → Bool
is_no_item Skipped = false
is_no_item (Header kind) = true
is_no_item (Node name number) = false
is_no_item (Edge tail head) = false
is_no_item (Arc tail head fixed cost) = false
is_no_item End = false
is_no_item Other = true

-- an edge in a directed graph, or an arc in an undirected one
abbrev pub is_wrong : Option Kind → Said → Bool
is_wrong None said = false
is_wrong (Some kind) Skipped = false
is_wrong (Some kind) (Header other) = false
is_wrong (Some kind) (Node name number) = false
is_wrong (Some Undirected) (Edge tail head) = false
is_wrong (Some Directed) (Edge tail head) = true
is_wrong (Some Undirected) (Arc tail head fixed cost) = true
is_wrong (Some Directed) (Arc tail head fixed cost) = false
is_wrong (Some kind) End = false
is_wrong (Some kind) Other = false

abbrev pub is_end : Said → Bool
is_end Skipped = false
is_end (Header kind) = false
is_end (Node name number) = false
is_end (Edge tail head) = false
is_end (Arc tail head fixed cost) = false
is_end End = true
is_end Other = false

-- the ends of a line lack something
abbrev pub lacks : (List ℕ → Bool) → Ends → Bool
lacks has ends = not (has ends.tail) || not (has ends.head)

-- Whether a cause holds of a line with this content before it. Where an arc isn't of the wrong kind, the lines before it are arcs.
abbrev pub holds : Content → Said → Why → Bool
holds content said NoHeader = wants_header said && not (has_begun content)
holds content said BadLine = is_no_item said && has_begun content
holds content said WrongKind = is_wrong content.kind said
holds content said BadName = list_any (λ name. not (is_name name)) (nodes_on said) || list_any (lacks is_name) (ends_on said)
holds content said BadNumber = list_any (λ word. not (is_number most_number word)) (number_words_on said) || list_any (λ word. not (is_number most_cost word)) (cost_words_on said)
holds content said TwiceNode = list_any (is_known content) (nodes_on said)
holds content said UnknownNode = list_any (lacks (is_known content)) (ends_on said)
holds content said Loop = list_any (λ ends. bytes_eq ends.tail ends.head) (ends_on said)
holds content said ManyNodes = list_any (λ name. nat_le most_nodes (length content.names)) (nodes_on said)
holds content said ManyLines = list_any (λ ends. nat_le most_lines (length content.ends)) (ends_on said)
holds content said ManyNumbers = list_any (λ number. nat_lt most_numbers (sum content.numbers + number)) (numbers_on said)
holds content said ManyCosts = list_any (λ cost. nat_lt most_costs (cost_of content.ends + cost)) (costs_on said)
holds content said NoNode = is_end said && (length content.names == 0)
holds content said NoEnd = false

-- in the order in which they count
abbrev pub causes : List Why
causes = NoHeader ∷ BadLine ∷ WrongKind ∷ BadName ∷ BadNumber ∷ TwiceNode ∷ UnknownNode ∷ Loop ∷ ManyNodes ∷ ManyLines ∷ ManyNumbers ∷ ManyCosts ∷ NoNode ∷ []

-- the first cause that holds
abbrev pub cause : Content → Said → Option Why
cause content said = find (holds content said) causes
