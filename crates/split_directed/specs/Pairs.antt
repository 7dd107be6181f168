-- Splitting off a whole star, in pairs of nodes.
use Rattle.std.specs.Prelude.{ℕ, ◌≡◌, ◌≢◌, ◌<◌, ◌≤◌, ◌==◌, ◌⊎◌, ◌++◌, Bool, true, List, length, slice_index, sum, count_by, All}
use Rattle.graph_core.specs.Side.{has}
use Rattle.graph_core.specs.Graph.{lines_of}
use Rattle.graph_core.specs.Pairs.{apart}
use Rattle.graph_core.specs.Connected.{IsArcConnected}
use Rattle.cut_fn.specs.Covered.{IsTight}
use Rattle.cut_fn.specs.Stars.{StarValue, star_enter, star_leave}

-- each node with an arc to it lies in a tight side of `star_enter`
abbrev pub AreHeadsTight : ℕ → ℕ → StarValue → Type 0
AreHeadsTight n k s = (v : ℕ) → v < n → 1 ≤ slice_index s.into v → (X : List Bool) × IsTight n k (star_enter s) X × (has X v ≡ true)

-- each node with an arc from it lies in a tight side of `star_leave`
abbrev pub AreTailsTight : ℕ → ℕ → StarValue → Type 0
AreTailsTight n k s = (v : ℕ) → v < n → 1 ≤ slice_index s.out v → (X : List Bool) × IsTight n k (star_leave s) X × (has X v ≡ true)

-- pairs (u, t) of an arc from u and one to t, which are the arcs of the star, and which connect the graph as arcs from u to t
pub record SplitInto (n k : ℕ) (s : StarValue) (pairs : List (ℕ × ℕ)) : Type 0 where
  pub nodes : All (λ p. (p.0 < n) × (p.1 < n)) pairs
  pub many : length pairs ≡ sum s.into
  pub out : (v : ℕ) → v < n → count_by (λ p. p.0 == v) pairs ≡ slice_index s.out v
  pub into : (v : ℕ) → v < n → count_by (λ p. p.1 == v) pairs ≡ slice_index s.into v
  pub connected : IsArcConnected k n (s.lines ++ lines_of (apart pairs))
  pub different : (AreHeadsTight n k s ⊎ AreTailsTight n k s) → All (λ p. p.0 ≢ p.1) pairs
