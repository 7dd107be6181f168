-- The least value of the proper sides that hold a node. No public clause cites it.
use Rattle.std.specs.Prelude.{ℕ, ◌≡◌, ◌<◌, ◌≤◌, Bool, true, List}
use Rattle.graph_core.specs.Side.{has, IsProper}

-- a proper side that holds the node and has the value
pub record HasProper (n : ℕ) (f : List Bool → ℕ) (v value : ℕ) (X : List Bool) : Type 0 where
  pub proper : IsProper n X
  pub holds : has X v ≡ true
  pub value_is : f X ≡ value

-- the smaller of stop and the least value of a proper side that holds the node; below stop X is such a side
pub record IsLeastProper (n : ℕ) (f : List Bool → ℕ) (v stop value : ℕ) (X : List Bool) : Type 0 where
  pub stopped : value ≤ stop
  pub least : (Y : List Bool) → IsProper n Y → has Y v ≡ true → value ≤ f Y
  pub reached : value < stop → HasProper n f v value X
