-- A round: the covered nodes grow from the last node on, and each side without it keeps its capacity, or all but one. No public clause cites it.
use Rattle.std.specs.Prelude.{ℕ, ◌≡◌, ◌+◌, ◌<◌, ◌≤◌, Bool, true, false, List, length}
use Rattle.graph_core.specs.Side.{has}
use Rattle.flow_cuts.specs.declared.network.Cap.{Cap}
use Rattle.flow_cuts.specs.Network.{capacity}
use Rattle.edmonds_branchings.specs.Network.{cap_at}

-- a nonempty side without the last node n
pub record IsRootless (n : ℕ) (X : List Bool) : Type 0 where
  pub long : length X ≡ n + 1
  pub some_in : (v : ℕ) × (has X v ≡ true)
  pub last_out : has X n ≡ false

-- no node is in both
abbrev pub AreApart : List Bool → List Bool → Type 0
AreApart X T = (v : ℕ) → has X v ≡ true → has T v ≡ false

-- each side has a capacity of at least k
abbrev pub HasCapacity : ℕ → ℕ → List Cap → Type 0
HasCapacity n k arcs = (X : List Bool) → IsRootless n X → k ≤ capacity X arcs

-- T is covered, the last node too: each side without that node has a capacity of at least k - 1, and of at least k where it holds no node of T
pub record IsRound (n k : ℕ) (arcs : List Cap) (T : List Bool) : Type 0 where
  pub long : length T ≡ n + 1
  pub last : has T n ≡ true
  pub most : (X : List Bool) → IsRootless n X → k ≤ capacity X arcs + 1
  pub apart : (X : List Bool) → IsRootless n X → AreApart X T → k ≤ capacity X arcs

-- each side that arc j leaves has a capacity of at least k
abbrev pub IsFree : ℕ → ℕ → List Cap → ℕ → Type 0
IsFree n k arcs j =
    (X : List Bool) → IsRootless n X → has X (cap_at arcs j).tail ≡ true → has X (cap_at arcs j).head ≡ false → k ≤ capacity X arcs

-- a critical side that arc j leaves
pub record IsBlocked (n k : ℕ) (arcs : List Cap) (j : ℕ) : Type 0 where
  pub side : List Bool
  pub rootless : IsRootless n side
  pub tail : has side (cap_at arcs j).tail ≡ true
  pub head : has side (cap_at arcs j).head ≡ false
  pub critical : capacity side arcs < k

-- each arc that is refused leaves a critical side
abbrev pub AreRefused : ℕ → ℕ → List Cap → List Bool → Type 0
AreRefused n k arcs refused = (j : ℕ) → has refused j ≡ true → IsBlocked n k arcs j

-- arc j is left, and leads from a node that isn't covered to one that is
pub record IsEligible (arcs : List Cap) (T : List Bool) (j : ℕ) : Type 0 where
  pub left : 0 < (cap_at arcs j).cap
  pub head : has T (cap_at arcs j).head ≡ true
  pub tail : has T (cap_at arcs j).tail ≡ false
