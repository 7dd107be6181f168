-- Families that show that the counts of a star can't be less.
use Rattle.std.specs.Prelude.{ℕ, ◌≡◌, ◌-◌, ◌≤◌, Bool, List, length, slice_index, sum, sum_by}
use Rattle.graph_core.specs.Families.{members_with, IsDisjointFamily}
use Rattle.cut_fn.specs.Covered.{IsCovered, AreTight}
use Rattle.flow_cuts.specs.StarValues.{with_counts}

-- disjoint tight sides that hold each node with a count, where h counts the lines at a side. So the counts have the sum of
-- k - h over the sides, and no other counts that make the star k-covered have less
pub record IsTightFamily (n k : ℕ) (h : List Bool → ℕ) (counts : List ℕ) (P : List (List Bool)) : Type 0 where
  pub disjoint : IsDisjointFamily n P
  pub tight : AreTight n k (with_counts h counts) P
  pub holds : (v : ℕ) → 1 ≤ slice_index counts v → 1 ≤ members_with v P
  pub lacks : sum counts ≡ sum_by (λ X. k - h X) P
  pub least : (other : List ℕ) → length other ≡ n → IsCovered n k (with_counts h other) → sum counts ≤ sum other
