-- A turn: the tree grows to its next node s, which t has represented. No public clause cites it.
use Rattle.std.specs.Prelude.{ℕ, ◌≡◌, ◌≢◌, ◌<◌, Bool, true, List, All}
use Rattle.graph_core.specs.Side.{has}
use Rattle.graph_core.specs.Graph.{Fits}
use Rattle.graph_core.specs.declared.graph.Line.{Line}
use Rattle.cut_trees.specs.declared.branch.Branch.{Branch}
use Rattle.cut_trees.specs.Grown.{IsGrown}

-- the branches at t lead to t
pub record IsTurn (n s t : ℕ) (ls : List Line) (m : ℕ) (b : ℕ → Branch) (rep : ℕ → ℕ) : Type 0 where
  pub fit : All (Fits n) ls
  pub grown : IsGrown n s ls m b rep
  pub next : s < n
  pub rep_is : rep s ≡ t
  pub turned_to : (j : ℕ) → j < m → (b j).first ≢ t

-- X holds all or none of the stored side of each of the first i branches that lead to t
abbrev pub Follows : ℕ → ℕ → ℕ → (ℕ → Branch) → List Bool → Type 0
Follows n t i b X = (j x : ℕ) → j < i → x < n → (b j).second ≡ t → has (b j).side x ≡ true → has X x ≡ has X (b j).first
