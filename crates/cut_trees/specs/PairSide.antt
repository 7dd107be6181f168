-- The side of a pair of a tree.
use Rattle.std.specs.Prelude.{ℕ, ◌≡◌, Bool, true, false, List, length}
use Rattle.graph_core.specs.Side.{has}
use Rattle.graph_core.specs.Lines.{degree}
use Rattle.problem_defs.specs.CutTree.{tree_lines}

-- X holds u and misses v, and exactly one of the pairs crosses it
pub record IsPairSide (n : ℕ) (pairs : List (ℕ × ℕ × ℕ)) (u v : ℕ) (X : List Bool) : Type 0 where
  pub long : length X ≡ n
  pub holds : has X u ≡ true
  pub misses : has X v ≡ false
  pub alone : degree X (tree_lines pairs) ≡ 1

-- there is exactly one such side for the nodes of p
pub record HasOneSide (n : ℕ) (pairs : List (ℕ × ℕ × ℕ)) (p : ℕ × ℕ × ℕ) : Type 0 where
  pub side : List Bool
  pub is : IsPairSide n pairs p.0 p.1 side
  pub only : (X : List Bool) → IsPairSide n pairs p.0 p.1 X → X ≡ side
