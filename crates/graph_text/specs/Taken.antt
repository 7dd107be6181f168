-- What the lines of a text add, one after another. No public clause cites it.
use Rattle.std.specs.Prelude.{ℕ, ◌+◌, ◌-◌, ◌<◌, ◌≤◌, ◌≡◌, Bool, true, false, sum, List, [], ◌∷◌, ◌++◌, length, take}
use Rattle.std.specs.declared.option.Option.TheVariants.{None, Some}
use Rattle.std.specs.Str.{bytes_eq}
use Rattle.graph_core.specs.Limits.{most_cost, most_costs, most_lines, most_nodes, most_number, most_numbers}
use Rattle.graph_core.specs.Name.{IsName}
use Rattle.graph_core.specs.declared.graph.Kind.TheVariants.{Undirected, Directed}
use Rattle.graph_text.specs.Numbers.{value, is_number, arc_cost}
use Rattle.graph_text.specs.Said.{Said, Skipped, Header, Node, Edge, Arc, End, Other}
use Rattle.graph_text.specs.Before.{Ends, Content, content_of, cost_of, is_known}
use Rattle.graph_text.specs.Text.{sayings, EndsAt}
use Rattle.graph_text.specs.Reading.{CutsNoLine}

-- two known nodes, and room for a line between them
pub record CanJoin (content : Content) (tail head : List ℕ) : Type 0 where
  pub room : length content.ends < most_lines
  pub tail_known : is_known content tail ≡ true
  pub head_known : is_known content head ≡ true
  pub apart : bytes_eq tail head ≡ false

-- a new name with a number, and room for both
pub record CanAdd (content : Content) (name number : List ℕ) : Type 0 where
  pub room : length content.names < most_nodes
  pub named : IsName name
  pub fresh : is_known content name ≡ false
  pub is_number : is_number most_number number ≡ true
  pub total : sum content.numbers + value number ≤ most_numbers

-- an arc of a directed graph with a cost, and room for the cost
pub record CanPay (content : Content) (fixed : Bool) (cost : List ℕ) : Type 0 where
  pub kind : content.kind ≡ Some Directed
  pub is_number : is_number most_cost cost ≡ true
  pub total : cost_of content.ends + arc_cost fixed cost ≤ most_costs

-- what a line without a fault meets
abbrev pub CanTake : Content → Said → Type 0
CanTake content Skipped = Unit {0}
CanTake content (Header kind) = content.kind ≡ None
CanTake content (Node name number) = CanAdd content name number
CanTake content (Edge tail head) = CanJoin content tail head × (content.kind ≡ Some Undirected)
CanTake content (Arc tail head fixed cost) = CanJoin content tail head × CanPay content fixed cost
CanTake content End = Unit {0}
CanTake content Other = Unit {0}

abbrev pub with_ends : Content → Ends → Content
with_ends content ends = record { kind = content.kind; names = content.names; numbers = content.numbers; ends = content.ends ++ ends ∷ [] }

-- the content with what one more line says
abbrev pub grown : Content → Said → Content
grown content Skipped = content
grown content (Header kind) = record { kind = Some kind; names = content.names; numbers = content.numbers; ends = content.ends }
grown content (Node name number) = record { kind = content.kind; names = content.names ++ name ∷ []; numbers = content.numbers ++ value number ∷ []; ends = content.ends }
grown content (Edge tail head) = with_ends content (record { tail = tail; head = head; fixed = false; cost = 1 })
grown content (Arc tail head fixed cost) = with_ends content (record { tail = tail; head = head; fixed = fixed; cost = arc_cost fixed cost })
grown content End = content
grown content Other = content

-- The first bytes, so many, are whole lines, so many, up to the end of a text with this content.
pub record ReadsLines (bytes : List ℕ) (content : Content) (lines count : ℕ) : Type 0 where
  pub within : count ≤ length bytes
  pub whole : CutsNoLine count bytes
  pub last : ℕ
  pub ends : EndsAt (sayings (take count bytes)) last
  pub last_is : last + 1 ≡ length (sayings (take count bytes))
  pub lines_is : lines ≡ last + 1
  pub content_is : content ≡ content_of (take last (sayings (take count bytes)))
  pub few : lines + (length bytes - count) ≤ length bytes
