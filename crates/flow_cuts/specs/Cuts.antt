-- Minimum cuts between two sides of a network.
use Rattle.std.specs.Prelude.{◌≡◌, ℕ, ◌<◌, ◌≤◌, Bool, List}
use Rattle.cut_fn.specs.TwoSides.{IsWithin}
use Rattle.flow_cuts.specs.declared.network.Cap.{Cap}
use Rattle.flow_cuts.specs.Network.{capacity, Separates}

-- the smaller of stop and the least capacity that leaves an X which separates
pub record IsLeastCapacity (n : ℕ) (inside outside : List Bool) (arcs : List Cap) (stop answer : ℕ) : Type 0 where
  pub stopped : answer ≤ stop
  pub least : (X : List Bool) → Separates n inside outside X → answer ≤ capacity X arcs
  pub reached : answer < stop → (X : List Bool) × Separates n inside outside X × (capacity X arcs ≡ answer)

-- this is the capacity that leaves X, and no side that separates has less
pub record IsMinimumCut (n : ℕ) (inside outside : List Bool) (arcs : List Cap) (value : ℕ) (X : List Bool) : Type 0 where
  pub separates : Separates n inside outside X
  pub value_is : capacity X arcs ≡ value
  pub least : (Y : List Bool) → Separates n inside outside Y → value ≤ capacity Y arcs

-- a minimum cut that lies within each other one
pub record IsSmallestCut (n : ℕ) (inside outside : List Bool) (arcs : List Cap) (value : ℕ) (X : List Bool) : Type 0 where
  pub cut : IsMinimumCut n inside outside arcs value X
  pub smallest : (Y : List Bool) → IsMinimumCut n inside outside arcs value Y → IsWithin X Y

-- a minimum cut that each other one lies within
pub record IsLargestCut (n : ℕ) (inside outside : List Bool) (arcs : List Cap) (value : ℕ) (X : List Bool) : Type 0 where
  pub cut : IsMinimumCut n inside outside arcs value X
  pub largest : (Y : List Bool) → IsMinimumCut n inside outside arcs value Y → IsWithin Y X
