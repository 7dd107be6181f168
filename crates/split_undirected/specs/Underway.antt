-- A star of which rows of pairs are split off. No public clause cites it.
use Rattle.std.specs.Prelude.{ℕ, ◌≡◌, ◌+◌, ◌%◌, ◌<◌, ◌≤◌, ◌⊎◌, ◌==◌, Bool, true, cond, List, [], ◌∷◌, ◌++◌, length, sum, slice_index}
use Rattle.graph_core.specs.declared.graph.Line.{Line}
use Rattle.graph_core.specs.Pairs.{pair_at, pairs_of}
use Rattle.flow_cuts.specs.declared.network.Cap.{Cap}
use Rattle.split_undirected.specs.CoveredStar.{is_candidate, AreWitnesses}
use Rattle.flow_cuts.specs.NewNode.{value_with}
use Rattle.split_undirected.specs.Network.{both_ways, IsStarNet}
use Rattle.split_undirected.specs.Split.{ends_at, lines_after}
use Rattle.split_undirected.specs.Rows.{HaveSameEnds, AreMost}

-- arcs and counts are what is left of the star with the lines ls and the counts w after the rows
pub record IsUnderway (n k : ℕ) (ls : List Line) (w : ℕ → ℕ) (rows : List (ℕ × ℕ × ℕ)) (arcs : List Cap) (counts : List ℕ) : Type 0 where
  pub net : IsStarNet n k (lines_after ls (pairs_of rows)) arcs counts
  pub left : (x : ℕ) → slice_index counts x + ends_at x (pairs_of rows) ≡ w x
  pub even : sum counts % 2 ≡ 0
  pub most : AreMost n k ls w rows

-- the first node of each row has no edge left
abbrev pub AreDone : List (ℕ × ℕ × ℕ) → List ℕ → Type 0
AreDone rows counts = (j : ℕ) → j < length rows → slice_index counts (pair_at rows j).0 ≡ 0

-- the same while u's edges are split off, with dangerous sides X and Y of u: no candidate of u has a row with u yet
pub record IsTurn (n k : ℕ) (u : ℕ) (rows : List (ℕ × ℕ × ℕ)) (arcs : List Cap) (counts : List ℕ) (X Y : List Bool) : Type 0 where
  pub witnesses : AreWitnesses n k (value_with arcs counts) u X Y
  pub firsts : (j : ℕ) → j < length rows → (slice_index counts (pair_at rows j).0 ≡ 0) ⊎ ((pair_at rows j).0 ≡ u)
  pub fresh : (j : ℕ) → j < length rows → (v : ℕ) → is_candidate (slice_index counts) u X Y v ≡ true → HaveSameEnds (pair_at rows j) (u, v, 0) → ⊥

-- what is left after q pairs (u, v) more: their row stands behind the others, unless q is 0
pub record IsAfterRow (u v q : ℕ) (rows : List (ℕ × ℕ × ℕ)) (arcs : List Cap) (counts : List ℕ) (rows' : List (ℕ × ℕ × ℕ)) (arcs' : List Cap) (counts' : List ℕ) : Type 0 where
  pub long : length counts' ≡ length counts
  pub lowered : (x : ℕ) → slice_index counts' x + (cond (u == x) q 0 + cond (v == x) q 0) ≡ slice_index counts x
  pub either : ((q ≡ 0) × (rows' ≡ rows) × (arcs' ≡ arcs) × (counts' ≡ counts)) ⊎ ((1 ≤ q) × (rows' ≡ rows ++ (u, v, q) ∷ []) × (arcs' ≡ arcs ++ both_ways u v q))
