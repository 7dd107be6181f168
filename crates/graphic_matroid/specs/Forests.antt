-- Disjoint forests with the most lines.
use Rattle.std.specs.Prelude.{◌≡◌, ℕ, ◌+◌, ◌-◌, ◌*◌, Bool, List, length, sum_by, All}
use Rattle.graph_core.specs.Lines.{between}
use Rattle.graph_core.specs.Families.{IsPartition}
use Rattle.graph_core.specs.Walks.{AreDisjoint}
use Rattle.graph_core.specs.Trees.{IsForest}
use Rattle.graph_core.specs.declared.graph.Line.{Line}

-- k disjoint forests, and a partition P by which no k have more lines: of the lines of any k,
-- at most e(P) join two of its p classes, and at most k (n - p) lie within one (Nash-Williams; Edmonds)
pub record AreMostForests (n : ℕ) (ls : List Line) (k : ℕ) (rows : List (List ℕ)) (P : List (List Bool)) : Type 0 where
  pub many : length rows ≡ k
  pub forests : All (IsForest n ls) rows
  pub disjoint : AreDisjoint rows
  pub partition : IsPartition n P
  pub most : sum_by length rows ≡ between P ls + k * (n - length P)
