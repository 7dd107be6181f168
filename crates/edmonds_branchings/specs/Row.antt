-- The branching that a round makes. No public clause cites it.
use Rattle.std.specs.Prelude.{ℕ, ◌≡◌, ◌+◌, ◌<◌, ◌≤◌, ◌==◌, ◌++◌, [], ◌∷◌, nat_lt, Bool, true, cond, List, length, All}
use Rattle.graph_core.specs.Side.{has}
use Rattle.graph_core.specs.Picked.{picked, occurrences}
use Rattle.graph_core.specs.Trees.{in_degree, IsAcyclic, IsBranching}
use Rattle.graph_core.specs.declared.graph.Line.{Line}
use Rattle.flow_cuts.specs.declared.network.Cap.{Cap}
use Rattle.edmonds_branchings.specs.Network.{cap_at, IsLeft}
use Rattle.edmonds_branchings.specs.Round.{HasCapacity}

-- arc j joins the row where it is one of the digraph's, and not one that a root leads to
abbrev pub row_with : ℕ → List ℕ → ℕ → List ℕ
row_with lines row j = cond (nat_lt j lines) (row ++ j ∷ []) row

-- the row has what the round took of the arcs before, and it covers T
pub record IsRow (n : ℕ) (ls : List Line) (before arcs : List Cap) (T : List Bool) (row : List ℕ) : Type 0 where
  pub left : IsLeft n ls arcs
  pub numbers : All (λ j. j < length ls) row
  pub once : (j : ℕ) → j < length ls → occurrences j row + (cap_at arcs j).cap ≡ (cap_at before j).cap
  pub inner : All (λ l. (has T l.tail ≡ true) × (has T l.head ≡ true)) (picked ls row)
  pub heads : (v : ℕ) → in_degree v (picked ls row) ≤ cond (has T v) 1 0
  pub acyclic : IsAcyclic n (picked ls row)
  pub begin : (v : ℕ) → v < n → (cap_at arcs (length ls + v)).cap + cond (has T v) 1 0 ≤ (cap_at before (length ls + v)).cap + in_degree v (picked ls row)

-- a branching of the arcs before; each side keeps all its capacity but one
pub record IsMade (n k : ℕ) (ls : List Line) (before arcs : List Cap) (row : List ℕ) : Type 0 where
  pub left : IsLeft n ls arcs
  pub branching : IsBranching n ls row
  pub once : (j : ℕ) → j < length ls → occurrences j row + (cap_at arcs j).cap ≡ (cap_at before j).cap
  pub begin : (v : ℕ) → v < n → (cap_at arcs (length ls + v)).cap + cond (in_degree v (picked ls row) == 0) 1 0 ≤ (cap_at before (length ls + v)).cap
  pub most : HasCapacity n k arcs
