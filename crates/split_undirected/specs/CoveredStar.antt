-- Values of sides in a star that is k-covered, and its dangerous sides. No public clause cites it.
use Rattle.std.specs.Prelude.{ℕ, ◌≡◌, ◌+◌, ◌*◌, ◌/◌, ◌≤◌, ◌⊎◌, ◌==◌, Bool, true, false, not, ◌&&◌, ◌||◌, nat_le, cond, List, length, replicate}
use Rattle.graph_core.specs.Side.{has, sum_over, complement, IsProper}
use Rattle.cut_fn.specs.Submodular.{BoundsThreeSides}
use Rattle.cut_fn.specs.Covered.{IsCovered}

-- the sum of the counts
abbrev pub total : ℕ → (ℕ → ℕ) → ℕ
total n w = sum_over (replicate n true) w

-- f has the laws of the values of sides in a star with the counts w
pub record IsCoveredStar (n k : ℕ) (f : List Bool → ℕ) (w : ℕ → ℕ) : Type 0 where
  pub covered : IsCovered n k f
  pub turned : (X : List Bool) → length X ≡ n → f (complement X) + 2 * sum_over X w ≡ f X + total n w
  pub three : BoundsThreeSides n f w

-- a proper side with u, of a value of at most k + 1
pub record IsDangerous (n k : ℕ) (f : List Bool → ℕ) (u : ℕ) (X : List Bool) : Type 0 where
  pub proper : IsProper n X
  pub holds : has X u ≡ true
  pub value : f X ≤ k + 1

-- such a side, or none yet
pub record IsWitness (n k : ℕ) (f : List Bool → ℕ) (u : ℕ) (X : List Bool) : Type 0 where
  pub long : length X ≡ n
  pub either : ((v : ℕ) → has X v ≡ false) ⊎ IsDangerous n k f u X

-- two of them
pub record AreWitnesses (n k : ℕ) (f : List Bool → ℕ) (u : ℕ) (X Y : List Bool) : Type 0 where
  pub near : IsWitness n k f u X
  pub far : IsWitness n k f u Y

-- two sides have each node that two others have
abbrev pub IsWider : List Bool → List Bool → List Bool → List Bool → Type 0
IsWider X Y X' Y' = (v : ℕ) → (has X v || has Y v) ≡ true → (has X' v || has Y' v) ≡ true

-- for how many pairs (u, v) the counts have edges
abbrev pub room : (ℕ → ℕ) → ℕ → ℕ → ℕ
room w u v = cond (u == v) (w u / 2) (cond (nat_le (w u) (w v)) (w u) (w v))

-- v may be tried as a partner of u: there are edges for a pair, and none of the two sides holds v
abbrev pub is_candidate : (ℕ → ℕ) → ℕ → List Bool → List Bool → ℕ → Bool
is_candidate w u X Y v = nat_le 1 (room w u v) && (not (has X v) && not (has Y v))
