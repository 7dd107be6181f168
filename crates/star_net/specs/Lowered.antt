-- Counts that make a star k-covered, of which those of the first nodes can't be lowered. No public clause cites it.
use Rattle.std.specs.Prelude.{ℕ, ◌≡◌, ◌<◌, ◌≤◌, Bool, List, length, slice_index}
use Rattle.graph_core.specs.Families.{members_with}
use Rattle.cut_fn.specs.Covered.{IsCovered, AreTight}
use Rattle.flow_cuts.specs.Network.{capacity}
use Rattle.flow_cuts.specs.declared.network.Cap.{Cap}
use Rattle.flow_cuts.specs.StarValues.{with_counts}

abbrev pub capacity_over : List Cap → List Bool → ℕ
capacity_over arcs X = capacity X arcs

-- the star is k-covered, the members of the family are tight, and each node below v has count 0 or is in a member
pub record IsLowered (n k : ℕ) (h : List Bool → ℕ) (v : ℕ) (counts : List ℕ) (family : List (List Bool)) : Type 0 where
  pub long : length counts ≡ n
  pub most : (u : ℕ) → slice_index counts u ≤ k
  pub covered : IsCovered n k (with_counts h counts)
  pub tight : AreTight n k (with_counts h counts) family
  pub found : (u : ℕ) → u < v → 1 ≤ slice_index counts u → 1 ≤ members_with u family
