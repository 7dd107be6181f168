-- Rows that stand for many copies of a pair each, and split all edges of a star off.
use Rattle.std.specs.Prelude.{ℕ, ◌≡◌, ◌+◌, ◌-◌, ◌<◌, ◌⊎◌, Bool, List, length, take, slice_index, All}
use Rattle.graph_core.specs.Pairs.{pair_at, IsRow, pairs_of}
use Rattle.graph_core.specs.Side.{sum_over}
use Rattle.graph_core.specs.Lines.{degree}
use Rattle.graph_core.specs.Connected.{IsEdgeConnected}
use Rattle.graph_core.specs.declared.graph.Line.{Line}
use Rattle.cut_fn.specs.declared.stars.Star.{Star}
use Rattle.split_undirected.specs.Most.{IsMost}
use Rattle.split_undirected.specs.Split.{ends_at, lines_after, UseUp}

-- the counts after pairs
abbrev pub counts_after : (ℕ → ℕ) → List (ℕ × ℕ) → ℕ → ℕ
counts_after w pairs v = w v - ends_at v pairs

-- the value of a side in the star with these lines and counts
abbrev pub star_value : List Line → (ℕ → ℕ) → List Bool → ℕ
star_value ls w X = degree X ls + sum_over X w

-- two rows of the same two nodes, in either order
abbrev pub HaveSameEnds : ℕ × ℕ × ℕ → ℕ × ℕ × ℕ → Type 0
HaveSameEnds r s = ((r.0 ≡ s.0) × (r.1 ≡ s.1)) ⊎ ((r.0 ≡ s.1) × (r.1 ≡ s.0))

-- after the pairs, the row's number is the largest that can be split off
abbrev pub IsMostAfter : ℕ → ℕ → List Line → (ℕ → ℕ) → List (ℕ × ℕ) → ℕ × ℕ × ℕ → Type 0
IsMostAfter n k ls w pairs r = IsMost n k (star_value (lines_after ls pairs) (counts_after w pairs)) (counts_after w pairs) r.0 r.1 r.2

-- each row's number is the largest after the rows before it, and no two nodes have two rows
pub record AreMost (n k : ℕ) (ls : List Line) (w : ℕ → ℕ) (rows : List (ℕ × ℕ × ℕ)) : Type 0 where
  pub each : All (IsRow n) rows
  pub most : (j : ℕ) → j < length rows → IsMostAfter n k ls w (pairs_of (take j rows)) (pair_at rows j)
  pub once : (i j : ℕ) → i < j → j < length rows → HaveSameEnds (pair_at rows i) (pair_at rows j) → ⊥

-- rows of largest numbers that split all edges of the star off and leave its graph k-edge-connected
pub record AreSplit (k : ℕ) (star : Star) (rows : List (ℕ × ℕ × ℕ)) : Type 0 where
  pub most : AreMost (length star.graph.names) k star.graph.lines (slice_index star.count) rows
  pub each : UseUp (length star.graph.names) (slice_index star.count) (pairs_of rows)
  pub connected : IsEdgeConnected k (length star.graph.names) (lines_after star.graph.lines (pairs_of rows))
