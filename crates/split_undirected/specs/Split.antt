-- Splitting off in a star: a pair (u, v) takes an edge to u and an edge to v away, and joins u and v by a line where they differ (Lovász).
use Rattle.std.specs.Prelude.{ℕ, ◌≡◌, ◌≢◌, ◌+◌, ◌*◌, ◌%◌, ◌<◌, ◌≤◌, ◌==◌, Bool, true, List, ◌++◌, length, count_by, slice_index, sum, All}
use Rattle.graph_core.specs.Limits.{line_room}
use Rattle.graph_core.specs.Side.{has, IsProper}
use Rattle.graph_core.specs.Graph.{lines_of}
use Rattle.graph_core.specs.Pairs.{apart}
use Rattle.graph_core.specs.Connected.{IsEdgeConnected}
use Rattle.graph_core.specs.declared.graph.Line.{Line}
use Rattle.cut_fn.specs.Covered.{IsCovered}
use Rattle.cut_fn.specs.Stars.{star_cut}
use Rattle.cut_fn.specs.declared.stars.Star.{Star}

-- a k-covered star with an even number of edges, few enough for a flow
pub record CanBeSplit (k : ℕ) (star : Star) : Type 0 where
  pub two : 2 ≤ k
  pub even : sum star.count % 2 ≡ 0
  pub covered : IsCovered (length star.graph.names) k (star_cut star)
  pub room : 2 * length star.graph.lines + sum star.count ≤ 2 * line_room

-- how often v is an end of the pairs, where a pair of equal nodes counts twice
abbrev pub ends_at : ℕ → List (ℕ × ℕ) → ℕ
ends_at v pairs = count_by (λ p. p.0 == v) pairs + count_by (λ p. p.1 == v) pairs

-- all edges of the star: each node v is an end w v times
abbrev pub UseUp : ℕ → (ℕ → ℕ) → List (ℕ × ℕ) → Type 0
UseUp n w pairs = (v : ℕ) → v < n → ends_at v pairs ≡ w v

-- the lines afterwards
abbrev pub lines_after : List Line → List (ℕ × ℕ) → List Line
lines_after ls pairs = ls ++ lines_of (apart pairs)

-- each node with an edge is in a proper side of a value of at most k + 1
abbrev pub AreInDangerous : ℕ → Star → Type 0
AreInDangerous k star =
    (v : ℕ) → v < length star.graph.names → 1 ≤ slice_index star.count v
    → (X : List Bool) × IsProper (length star.graph.names) X × (has X v ≡ true) × (star_cut star X ≤ k + 1)

-- pairs that split all edges of the star off and leave its graph k-edge-connected
pub record IsSplit (k : ℕ) (star : Star) (pairs : List (ℕ × ℕ)) : Type 0 where
  pub nodes : All (λ p. (p.0 < length star.graph.names) × (p.1 < length star.graph.names)) pairs
  pub each : UseUp (length star.graph.names) (slice_index star.count) pairs
  pub connected : IsEdgeConnected k (length star.graph.names) (lines_after star.graph.lines pairs)
  pub different : AreInDangerous k star → All (λ p. p.0 ≢ p.1) pairs
