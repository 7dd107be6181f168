-- A tree of least cuts that has grown to the nodes below s. No public clause cites it.
use Rattle.std.specs.Prelude.{ℕ, ◌≡◌, ◌≢◌, ◌+◌, ◌<◌, ◌≤◌, Bool, true, false, List, length}
use Rattle.graph_core.specs.Side.{has}
use Rattle.graph_core.specs.Lines.{differ, degree}
use Rattle.graph_core.specs.declared.graph.Line.{Line}
use Rattle.cut_trees.specs.declared.branch.Branch.{Branch}

-- m branches b on the nodes below s, each with a least cut that no other branch crosses; rep gives each node one below s that no stored side separates from it
pub record IsGrown (n s : ℕ) (ls : List Line) (m : ℕ) (b : ℕ → Branch) (rep : ℕ → ℕ) : Type 0 where
  pub many : m + 1 ≡ s
  pub below : s ≤ n
  pub long : (j : ℕ) → j < m → length (b j).side ≡ n
  pub first_in : (j : ℕ) → j < m → (b j).first < s
  pub second_in : (j : ℕ) → j < m → (b j).second < s
  pub inside : (j : ℕ) → j < m → has (b j).side (b j).first ≡ true
  pub outside : (j : ℕ) → j < m → has (b j).side (b j).second ≡ false
  pub apart : (i j : ℕ) → i < m → j < m → i ≢ j → has (b j).side (b i).first ≡ has (b j).side (b i).second
  pub value : (j : ℕ) → j < m → degree (b j).side ls ≡ (b j).weight
  pub least : (j : ℕ) → j < m → (Y : List Bool) → length Y ≡ n → differ (has Y (b j).first) (has Y (b j).second) ≡ true → (b j).weight ≤ degree Y ls
  pub rep_in : (x : ℕ) → x < n → rep x < s
  pub rep_self : (x : ℕ) → x < s → rep x ≡ x
  pub kept : (j x : ℕ) → j < m → x < n → has (b j).side (rep x) ≡ has (b j).side x
  pub joined : (q : ℕ → Bool) → ((j : ℕ) → j < m → q (b j).first ≡ q (b j).second) → (p : ℕ) → p < s → q p ≡ q 0
