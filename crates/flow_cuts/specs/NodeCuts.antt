-- Least cuts between two nodes of an undirected graph.
use Rattle.std.specs.Prelude.{ℕ, ◌≡◌, ◌≤◌, Bool, true, false, List, length}
use Rattle.graph_core.specs.Side.{has}
use Rattle.graph_core.specs.Lines.{differ, degree}
use Rattle.graph_core.specs.declared.graph.Line.{Line}

-- X holds s and misses t, w lines cross it, and no such side is crossed by fewer
pub record IsLeastNodeCut (n : ℕ) (ls : List Line) (s t w : ℕ) (X : List Bool) : Type 0 where
  pub long : length X ≡ n
  pub holds : has X s ≡ true
  pub misses : has X t ≡ false
  pub value : degree X ls ≡ w
  pub least : (Y : List Bool) → length Y ≡ n → has Y s ≡ true → has Y t ≡ false → w ≤ degree Y ls

-- no side that holds one of s and t is crossed by fewer than w lines
abbrev pub NoneIsLess : ℕ → List Line → ℕ → ℕ → ℕ → Type 0
NoneIsLess n ls s t w = (Y : List Bool) → length Y ≡ n → differ (has Y s) (has Y t) ≡ true → w ≤ degree Y ls
