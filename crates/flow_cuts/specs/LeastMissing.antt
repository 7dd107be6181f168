-- Least values of the sides that hold one side and miss a node.
use Rattle.std.specs.Prelude.{ℕ, ◌≡◌, ◌<◌, ◌≤◌, Bool, false, List, length}
use Rattle.graph_core.specs.Side.{has}
use Rattle.cut_fn.specs.TwoSides.{IsWithin}

-- X is a side of n nodes that holds those of H, misses node w and has the value. Of n nodes each side misses node n
pub record HasMissing (n : ℕ) (f : List Bool → ℕ) (H : List Bool) (w value : ℕ) (X : List Bool) : Type 0 where
  pub long : length X ≡ n
  pub holds : IsWithin H X
  pub misses : has X w ≡ false
  pub value_is : f X ≡ value

-- the smaller of stop and the least value of a side that holds H and misses w; below stop X is such a side
pub record IsLeastMissing (n : ℕ) (f : List Bool → ℕ) (H : List Bool) (w stop answer : ℕ) (X : List Bool) : Type 0 where
  pub stopped : answer ≤ stop
  pub least : (Y : List Bool) → length Y ≡ n → IsWithin H Y → has Y w ≡ false → answer ≤ f Y
  pub reached : answer < stop → HasMissing n f H w answer X
