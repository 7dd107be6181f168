-- Marked edges of which each side keeps so many, or all: forests, one after another. No public clause cites it.
use Rattle.std.specs.Prelude.{ℕ, ◌≡◌, ◌+◌, ◌<◌, ◌≤◌, ◌⊎◌, Bool, true, false, List, length, slice_index, slice_index_or}
use Rattle.graph_core.specs.Graph.{no_line}
use Rattle.graph_core.specs.Lines.{degree}
use Rattle.graph_core.specs.Side.{has}
use Rattle.graph_core.specs.declared.graph.Line.{Line}
use Rattle.nw_orientation.specs.Chosen.{chosen}

-- of the edges that leave a side, c are marked, or all
pub record IsThin (c : ℕ) (ls : List Line) (ms : List Bool) : Type 0 where
  pub long : length ms ≡ length ls
  pub keeps : (X : List Bool) → (c ≤ degree X (chosen true ls ms)) ⊎ (degree X ls ≤ degree X (chosen true ls ms))

-- each side that is left by an edge without a new mark is left by a newly marked one, and no mark is taken off
pub record HasForest (ls : List Line) (old new : List Bool) : Type 0 where
  pub long : length new ≡ length ls
  pub kept : (X : List Bool) → degree X (chosen true ls old) ≤ degree X (chosen true ls new)
  pub grows : (X : List Bool) → (degree X (chosen true ls old) + 1 ≤ degree X (chosen true ls new)) ⊎ (degree X ls ≤ degree X (chosen true ls new))

-- The edges before j were looked at: an unmarked one has ends of one label. Nodes of one label are in a side both or neither, unless a newly marked edge leaves it.
pub record IsGrowing (n : ℕ) (ls : List Line) (old : List Bool) (j : ℕ) (labels : List ℕ) (ms : List Bool) : Type 0 where
  pub long : length ms ≡ length ls
  pub labels_long : length labels ≡ n
  pub kept : (X : List Bool) → degree X (chosen true ls old) ≤ degree X (chosen true ls ms)
  pub classes : (X : List Bool) → degree X (chosen true ls ms) ≤ degree X (chosen true ls old) → (u v : ℕ) → u < n → v < n → slice_index labels u ≡ slice_index labels v → has X u ≡ has X v
  pub tried : (i : ℕ) → i < j → i < length ls → has ms i ≡ false → slice_index labels (slice_index_or ls i no_line).tail ≡ slice_index labels (slice_index_or ls i no_line).head
