-- The sides that pairs of nodes cut, as those of a tree do. No public clause cites it.
use Rattle.std.specs.Prelude.{◌≡◌, ℕ, ◌+◌, ◌≤◌, Bool, true, false, ◌&&◌, List, length, remove, count_by, All}
use Rattle.graph_core.specs.Side.{has, size}
use Rattle.graph_core.specs.Pairs.{pair_at}

-- how many pairs have both nodes in X
abbrev pub inside : List Bool → List (ℕ × ℕ × ℕ) → ℕ
inside X pairs = count_by (λ p. has X p.0 && has X p.1) pairs

-- no pair has one node in X and one outside
abbrev pub AreUncrossed : List Bool → List (ℕ × ℕ × ℕ) → Type 0
AreUncrossed X pairs = All (λ p. has X p.0 ≡ has X p.1) pairs

-- Y is X and the other node of a pair that crosses X
pub record AddsOther (u v : ℕ) (X Y : List Bool) : Type 0 where
  pub long : length Y ≡ length X
  pub keeps : (w : ℕ) → has X w ≡ true → has Y w ≡ true
  pub crossed : (has X u && has X v) ≡ false
  pub first : has Y u ≡ true
  pub second : has Y v ≡ true
  pub one : size Y ≡ size X + 1

-- Y holds X, and has at least one more of the pairs inside for each node that it has more
pub record IsGrown (pairs : List (ℕ × ℕ × ℕ)) (X Y : List Bool) : Type 0 where
  pub long : length Y ≡ length X
  pub keeps : (w : ℕ) → has X w ≡ true → has Y w ≡ true
  pub paid : size Y + inside X pairs ≤ inside Y pairs + size X

-- X is what pair j's first node reaches by the other pairs: none of them crosses X, and they connect it
pub record IsReach (n : ℕ) (pairs : List (ℕ × ℕ × ℕ)) (j : ℕ) (X : List Bool) : Type 0 where
  pub long : length X ≡ n
  pub holds : has X (pair_at pairs j).0 ≡ true
  pub uncrossed : AreUncrossed X (remove pairs j)
  pub paid : size X ≤ inside X (remove pairs j) + 1
