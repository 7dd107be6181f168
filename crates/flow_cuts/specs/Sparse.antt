-- Sides of a network that little capacity leaves.
use Rattle.std.specs.Prelude.{ℕ, ◌≡◌, ◌<◌, ◌≤◌, Bool, true, false, List, length, Option, None, Some}
use Rattle.graph_core.specs.Side.{has, IsProper}
use Rattle.cut_fn.specs.Covered.{IsCovered}
use Rattle.flow_cuts.specs.Network.{capacity}
use Rattle.flow_cuts.specs.declared.network.Cap.{Cap}

-- a proper side that less capacity leaves
pub record IsSparse (n : ℕ) (arcs : List Cap) (least : ℕ) (X : List Bool) : Type 0 where
  pub proper : IsProper n X
  pub few : capacity X arcs < least

-- such a side, or none where there is none: the capacity that leaves a proper side is at least so much
abbrev pub FindsSparse : ℕ → List Cap → ℕ → Option (List Bool) → Type 0
FindsSparse n arcs least (Some X) = IsSparse n arcs least X
FindsSparse n arcs least None = IsCovered n least (λ X. capacity X arcs)

-- such a side, which holds u and misses v
pub record IsSparseBetween (n : ℕ) (arcs : List Cap) (u v least : ℕ) (X : List Bool) : Type 0 where
  pub sparse : IsSparse n arcs least X
  pub holds : has X u ≡ true
  pub misses : has X v ≡ false

-- at least so much leaves each side that holds u and misses v
abbrev pub AreJoined : ℕ → List Cap → ℕ → ℕ → ℕ → Type 0
AreJoined n arcs u v least = (X : List Bool) → length X ≡ n → has X u ≡ true → has X v ≡ false → least ≤ capacity X arcs
