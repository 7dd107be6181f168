-- Edges that can't be deleted: each crosses a proper side with no edge to spare. No public clause cites it.
use Rattle.std.specs.Prelude.{ℕ, ◌≡◌, ◌<◌, ◌≤◌, Bool, true, List, length, slice_index_or, count_by, All}
use Rattle.graph_core.specs.Connected.{IsEdgeConnected}
use Rattle.graph_core.specs.Lines.{crosses, degree}
use Rattle.graph_core.specs.Side.{has, IsProper}
use Rattle.graph_core.specs.declared.graph.Line.{Line}
use Rattle.nw_orientation.specs.Chosen.{chosen}
use Rattle.nw_orientation.specs.Moved.{touches}

-- a proper side with just c edges
pub record IsTightCut (n c : ℕ) (ls : List Line) (X : List Bool) : Type 0 where
  pub proper : IsProper n X
  pub value : degree X ls ≡ c

-- the line crosses such a side
pub record IsNeeded (n c : ℕ) (ls : List Line) (l : Line) : Type 0 where
  pub side : List Bool
  pub tight : IsTightCut n c ls side
  pub crossed : crosses side l ≡ true

-- an end of the line has at most c lines
pub record HasBareEnd (c : ℕ) (ls : List Line) (l : Line) : Type 0 where
  pub node : ℕ
  pub touching : touches node l ≡ true
  pub few : count_by (touches node) ls ≤ c

-- both ends of the line have more than c lines
pub record HasSpareEnds (c : ℕ) (ls : List Line) (l : Line) : Type 0 where
  pub tail : c < count_by (touches l.tail) ls
  pub head : c < count_by (touches l.head) ls

-- c-edge-connected lines, none of which can be deleted
pub record IsLean (n c : ℕ) (ls : List Line) : Type 0 where
  pub connected : IsEdgeConnected c n ls
  pub needed : All (IsNeeded n c ls) ls

-- the marked lines are c-edge-connected, and each marked one before j is needed
pub record IsPrunedTo (n c : ℕ) (ls : List Line) (j : ℕ) (ms : List Bool) : Type 0 where
  pub long : length ms ≡ length ls
  pub connected : IsEdgeConnected c n (chosen true ls ms)
  pub needed : (i : ℕ) (d : Line) → i < j → i < length ls → has ms i ≡ true → IsNeeded n c (chosen true ls ms) (slice_index_or ls i d)

-- none of the lines before j can be deleted
abbrev pub AreNeeded : ℕ → ℕ → List Line → ℕ → Type 0
AreNeeded n c ls j = (i : ℕ) (d : Line) → i < j → i < length ls → IsNeeded n c ls (slice_index_or ls i d)
