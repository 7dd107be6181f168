-- The kernels that were found, each in the row of its node. No public clause cites them.
use Rattle.std.specs.Prelude.{ℕ, ◌≡◌, ◌<◌, Bool, true, false, List, length, Option, Some, None, slice_index_or}
use Rattle.graph_core.specs.Graph.{GraphValue}
use Rattle.graph_core.specs.Side.{has}
use Rattle.dicut_lattice.specs.Tight.{IsAllowed}

-- what is in row v
abbrev pub row : List (Option (List Bool)) → ℕ → Option (List Bool)
row rows v = slice_index_or rows v None

-- a kernel
abbrev pub HasRow : List (Option (List Bool)) → ℕ → Type 0
HasRow rows v = (K : List Bool) × (row rows v ≡ Some K)

-- K is the kernel of y: it has the nodes to which a jump from y is allowed. Unlike IsKernel it names no tight side for each other node, since a ghost field holds only what has one proof at most.
pub record AreAllowed (g : GraphValue) (join : List ℕ) (y : ℕ) (K : List Bool) : Type 0 where
  pub long : length K ≡ length g.names
  pub inside : (x : ℕ) → has K x ≡ true → IsAllowed g join x y
  pub outside : (x : ℕ) → x < length g.names → has K x ≡ false → IsAllowed g join x y → ⊥

-- each kernel is that of its row's node
abbrev pub AreRows : GraphValue → List ℕ → List (Option (List Bool)) → Type 0
AreRows g join rows = (v : ℕ) (K : List Bool) → row rows v ≡ Some K → AreAllowed g join v K
