-- A node of least degree split off, and how its edges' directions are led back. No public clause cites it.
use Rattle.std.specs.Prelude.{ℕ, ◌≡◌, ◌+◌, ◌*◌, ◌<◌, ◌≤◌, Bool, true, List, ◌++◌, length, count_by, slice_index, map, drop, All}
use Rattle.graph_core.specs.Connected.{IsEdgeConnected}
use Rattle.graph_core.specs.Graph.{GraphValue, Fits, lines_of}
use Rattle.graph_core.specs.Picked.{occurrences}
use Rattle.graph_core.specs.declared.graph.Kind.TheVariants.{Undirected}
use Rattle.graph_core.specs.declared.graph.Line.{Line}
use Rattle.graph_core.specs.Pairs.{apart}
use Rattle.problem_defs.specs.Orient.{turned}
use Rattle.split_undirected.specs.Split.{ends_at}
use Rattle.cut_fn.specs.declared.stars.Star.{Star}
use Rattle.nw_orientation.specs.Chosen.{chosen}
use Rattle.nw_orientation.specs.Led.{arrives}
use Rattle.nw_orientation.specs.Moved.{moved, moved_line, touches, apart_marks, spokes, other_end, others, spoke_ends}
use Rattle.nw_orientation.specs.Needed.{AreNeeded}

-- a line that fits and has z as an end
pub record IsSpoke (z q : ℕ) (l : Line) : Type 0 where
  pub fits : Fits (q + 1) l
  pub touching : touches z l ≡ true

-- Node z of the nodes up to q is split off into pairs; g is what is left, and its first m edges are needed.
pub record IsSplitOff (k q : ℕ) (ls : List Line) (z : ℕ) (pairs : List (ℕ × ℕ)) (g : GraphValue) (m : ℕ) : Type 0 where
  pub node : z ≤ q
  pub low : All (λ p. (p.0 < q) × (p.1 < q)) pairs
  pub each : (v : ℕ) → v < q → ends_at v pairs ≡ occurrences v (spoke_ends z q ls)
  pub many : length pairs ≡ k
  pub kind : g.kind ≡ Undirected
  pub nodes : length g.names ≡ q
  pub lines : g.lines ≡ others z q ls ++ lines_of (apart pairs)
  pub old : m ≡ length (others z q ls)
  pub connected : IsEdgeConnected (2 * k) q g.lines
  pub needed : AreNeeded q (2 * k) g.lines m
  pub fewer : length g.lines + k ≤ length ls

-- how often each node below q stands among the ends
pub record AreTallied (q : ℕ) (ends counts : List ℕ) : Type 0 where
  pub long : length counts ≡ q
  pub each : (v : ℕ) → v < q → slice_index counts v ≡ occurrences v ends

-- the star of node z, of the edges that don't touch it and those that do
pub record IsStarOf (z q : ℕ) (far near : List Line) (star : Star) : Type 0 where
  pub kind : star.graph.kind ≡ Undirected
  pub nodes : length star.graph.names ≡ q
  pub lines : star.graph.lines ≡ map (moved_line z q) far
  pub counts : AreTallied q (map (λ l. moved z q (other_end z l)) near) star.count

abbrev pub IsStarAt : ℕ → ℕ → List Line → Star → Type 0
IsStarAt z q ls star = IsStarOf z q (chosen true ls (apart_marks z ls)) (spokes z ls) star

-- the spokes before j have their directions; into says how many arcs must still go to z from each node
pub record AreBeingClaimed (z q : ℕ) (spokes : List Line) (all : List ℕ) (j : ℕ) (into : List ℕ) (turns : List Bool) : Type 0 where
  pub long : length turns ≡ j
  pub into_long : length into ≡ q
  pub done : (w : ℕ) → w < q → count_by (arrives z q w) (turned spokes turns) + slice_index into w ≡ slice_index all w
  pub enough : (w : ℕ) → w < q → slice_index into w ≤ occurrences w (map (λ l. moved z q (other_end z l)) (drop j spokes))

-- each of the lines has z as one end; into doesn't say more than there are
pub record CanBeClaimed (z q : ℕ) (spokes : List Line) (into : List ℕ) : Type 0 where
  pub node : z ≤ q
  pub touching : All (IsSpoke z q) spokes
  pub long : length into ≡ q
  pub enough : (w : ℕ) → w < q → slice_index into w ≤ occurrences w (map (λ l. moved z q (other_end z l)) spokes)
