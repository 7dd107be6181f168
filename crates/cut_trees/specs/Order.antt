-- The pairs of a tree in an order in which a search comes to them, each turned to lead away from where it began. No public clause cites it.
use Rattle.std.specs.Prelude.{ℕ, ◌≡◌, ◌≢◌, ◌+◌, ◌<◌, ◌≤◌, ◌⊎◌, Bool, true, false, List, length, All}
use Rattle.graph_core.specs.Graph.{GraphValue}
use Rattle.graph_core.specs.Side.{has, size}
use Rattle.graph_core.specs.Lines.{degree}
use Rattle.problem_defs.specs.CutTree.{tree_lines, IsLeastCut}
use Rattle.graph_core.specs.Pairs.{pair_at, AreIn}

-- with its nodes exchanged, unless the first one is in
abbrev pub outward : Bool → ℕ × ℕ × ℕ → ℕ × ℕ × ℕ
outward true p = p
outward false p = (p.1, p.0, p.2)

-- x is u, or one of the first i pairs leads to it
abbrev pub IsReached : ℕ → List (ℕ × ℕ × ℕ) → ℕ → ℕ → Type 0
IsReached u ps i x = (x ≡ u) ⊎ ((k : ℕ) × (k < i) × ((pair_at ps k).1 ≡ x))

-- each of the first i pairs leads from u, or from where an earlier one leads, to a node that no earlier one has
pub record IsOrdered (u : ℕ) (ps : List (ℕ × ℕ × ℕ)) (i : ℕ) : Type 0 where
  pub from : (k : ℕ) → k < i → IsReached u ps k (pair_at ps k).0
  pub fresh : (j k : ℕ) → j ≤ k → k < i → (pair_at ps j).0 ≢ (pair_at ps k).1
  pub apart : (j k : ℕ) → j < k → k < i → (pair_at ps j).1 ≢ (pair_at ps k).1

-- a search from u has come to X by the first i pairs of ps, which has the pairs of a cut tree of g in another order, some of them turned
pub record IsSearched (g : GraphValue) (pairs : List (ℕ × ℕ × ℕ)) (u : ℕ) (ps : List (ℕ × ℕ × ℕ)) (i : ℕ) (X : List Bool) : Type 0 where
  pub long : length X ≡ length g.names
  pub many : length ps + 1 ≡ length g.names
  pub nodes : AreIn (length g.names) ps
  pub cuts : All (λ p. IsLeastCut g pairs p.0 p.1 p.2) ps
  pub same : (Z : List Bool) → degree Z (tree_lines ps) ≡ degree Z (tree_lines pairs)
  pub ordered : IsOrdered u ps i
  pub start : has X u ≡ true
  pub ends : (k : ℕ) → k < i → (has X (pair_at ps k).0 ≡ true) × (has X (pair_at ps k).1 ≡ true)
  pub reached : (x : ℕ) → has X x ≡ true → IsReached u ps i x
  pub size : size X ≡ i + 1
