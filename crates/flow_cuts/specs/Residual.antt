-- Residual networks: links, what may still go along them, and what a push changes. No public clause cites it.
use Rattle.std.specs.Prelude.{◌≡◌, ℕ, ◌+◌, ◌-◌, ◌^◌, ◌<◌, List, length, slice_index_or, slice_set, Bool, sum_by}
use Rattle.graph_core.specs.Side.{has}
use Rattle.graph_core.specs.declared.graph.Kind.{Kind}
use Rattle.graph_core.specs.declared.graph.Kind.TheVariants.{Undirected, Directed}
use Rattle.graph_core.specs.declared.graph.Line.{Line}
use Rattle.flow_cuts.specs.Network.{across, capacity, Separates}
use Rattle.flow_cuts.specs.declared.network.Cap.{Cap}
use Rattle.flow_cuts.specs.declared.network.Link.{Link}
use Rattle.flow_cuts.specs.declared.network.Step.{Step}
use Rattle.flow_cuts.specs.declared.network.Way.{Way}
use Rattle.flow_cuts.specs.declared.network.Way.TheVariants.{Forth, Back}

-- where one comes from, where one goes to, and how much may go, by the way along the link
abbrev pub from_of : Link → Way → ℕ
from_of l Forth = l.tail
from_of l Back = l.head

abbrev pub to_of : Link → Way → ℕ
to_of l Forth = l.head
to_of l Back = l.tail

abbrev pub room_of : Link → Way → ℕ
room_of l Forth = l.forth
room_of l Back = l.back

-- the link after a was sent along it
abbrev pub moved : Link → Way → ℕ → Link
moved l Forth a = record l { forth = l.forth - a; back = l.back + a }
moved l Back a = record l { back = l.back - a; forth = l.forth + a }

-- a link that leads nowhere, which stands where a number names none
abbrev pub no_link : Link
no_link = record { tail = 0; head = 0; forth = 0; back = 0 }

abbrev pub link_at : List Link → ℕ → Link
link_at ls j = slice_index_or ls j no_link

abbrev pub from_at : List Link → Step → ℕ
from_at ls s = from_of (link_at ls s.link) s.way

abbrev pub to_at : List Link → Step → ℕ
to_at ls s = to_of (link_at ls s.link) s.way

abbrev pub room_at : List Link → Step → ℕ
room_at ls s = room_of (link_at ls s.link) s.way

abbrev pub pushed : List Link → Step → ℕ → List Link
pushed ls s a = slice_set ls s.link (moved (link_at ls s.link) s.way a)

-- what goes along each link both ways together fits a number of 32 bits
pub record EachFits (ls : List Link) : Type 0 where
  pub at : (j : ℕ) → j < length ls → (link_at ls j).forth + (link_at ls j).back < 2 ^ 32

-- the same links with other rooms
pub record SameEnds (ls ls' : List Link) : Type 0 where
  pub len : length ls' ≡ length ls
  pub from : (s : Step) → from_at ls' s ≡ from_at ls s
  pub to : (s : Step) → to_at ls' s ≡ to_at ls s

-- the link with its two rooms exchanged
abbrev pub mirrored : Link → Link
mirrored l = record l { forth = l.back; back = l.forth }

-- an arc as a link along which nothing goes back
abbrev pub link_of : Cap → Link
link_of a = record { tail = a.tail; head = a.head; forth = a.cap; back = 0 }

abbrev pub arc_along : Link → Cap
arc_along l = record { tail = l.tail; head = l.head; cap = l.forth }

-- as much goes along each link both ways together
pub record SameSums (ls ls' : List Link) : Type 0 where
  pub at : (j : ℕ) → (link_at ls' j).forth + (link_at ls' j).back ≡ (link_at ls j).forth + (link_at ls j).back

-- a line of a graph as a link: an edge lets one unit through either way
abbrev pub link_along : Kind → Line → Link
link_along Undirected l = record { tail = l.tail; head = l.head; forth = 1; back = 1 }
link_along Directed l = record { tail = l.tail; head = l.head; forth = 1; back = 0 }

-- what may leave the side along the link, forth or back
abbrev pub room_out : List Bool → Link → ℕ
room_out X l = across (has X l.tail) (has X l.head) l.forth + across (has X l.head) (has X l.tail) l.back

-- what may leave the side
abbrev pub room_leaving : List Bool → List Link → ℕ
room_leaving X ls = sum_by (room_out X) ls

-- as much may leave each side along the links as along the arcs
pub record AreLinksOf (arcs : List Cap) (ls : List Link) : Type 0 where
  pub leaves : (X : List Bool) → room_leaving X ls ≡ capacity X arcs

-- of what the arcs let out of a side, value is sent and the links keep the rest, for each side that separates
pub record IsFlow (n : ℕ) (inside outside : List Bool) (arcs : List Cap) (ls : List Link) (value : ℕ) : Type 0 where
  pub sent : (X : List Bool) → Separates n inside outside X → room_leaving X ls + value ≡ capacity X arcs
