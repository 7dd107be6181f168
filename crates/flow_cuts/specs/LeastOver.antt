-- Least values of the proper sides that hold two nodes.
use Rattle.std.specs.Prelude.{ℕ, ◌≡◌, ◌+◌, ◌*◌, ◌<◌, ◌≤◌, Bool, true, false, List, slice_index, sum}
use Rattle.graph_core.specs.Side.{has, sum_over, IsProper}

-- X is a proper side that holds u and t and has the value
pub record HasBoth (n : ℕ) (f : List Bool → ℕ) (u t value : ℕ) (X : List Bool) : Type 0 where
  pub proper : IsProper n X
  pub first : has X u ≡ true
  pub second : has X t ≡ true
  pub value_is : f X ≡ value

-- the smaller of stop and the least value of a proper side that holds u and t; below stop X is such a side
pub record IsLeastOver (n : ℕ) (f : List Bool → ℕ) (u t stop answer : ℕ) (X : List Bool) : Type 0 where
  pub stopped : answer ≤ stop
  pub least : (Y : List Bool) → IsProper n Y → has Y u ≡ true → has Y t ≡ true → answer ≤ f Y
  pub reached : answer < stop → HasBoth n f u t answer X

-- each proper side that holds u and t and has a value below stop misses a node with a count
abbrev pub MissesCount : ℕ → (List Bool → ℕ) → List ℕ → ℕ → ℕ → ℕ → Type 0
MissesCount n f counts u t stop =
    (X : List Bool) → IsProper n X → has X u ≡ true → has X t ≡ true → f X < stop → (w : ℕ) × (w < n) × (has X w ≡ false) × (1 ≤ slice_index counts w)

-- twice the counts of a proper side are at most its value and all counts, less k
abbrev pub BoundsCounts : ℕ → ℕ → (List Bool → ℕ) → List ℕ → Type 0
BoundsCounts n k f counts = (X : List Bool) → IsProper n X → 2 * sum_over X (slice_index counts) + k ≤ f X + sum counts
