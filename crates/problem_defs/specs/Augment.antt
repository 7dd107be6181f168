-- Fewest new edges that make a graph k-edge-connected (Watanabe and Nakamura 1987; Frank 1992).
use Rattle.std.specs.Prelude.{ℕ, ◌≡◌, ◌-◌, ◌*◌, ◌≤◌, ◌==◌, false, Bool, cond, List, ◌++◌, length, All, sum_by}
use Rattle.std.specs.Int.{div_ceil}
use Rattle.graph_core.specs.Limits.{most_k}
use Rattle.graph_core.specs.Graph.{GraphValue, Fits, lines_of}
use Rattle.graph_core.specs.Lines.{degree, between}
use Rattle.graph_core.specs.Families.{IsDisjointFamily, IsPartition}
use Rattle.graph_core.specs.Connected.{IsEdgeConnected}
use Rattle.graph_core.specs.declared.graph.Kind.TheVariants.{Undirected}
use Rattle.problem_defs.specs.declared.problem.Problem.{Ghosts}
use Rattle.problem_defs.specs.declared.augment.AugmentAsk.{AugmentAsk}
pub mod Cert
pub mod Law

pub record Suits (k : ℕ) (g : GraphValue) : Type 0 where
  pub low : 1 ≤ k
  pub high : k ≤ most_k
  pub kind : g.kind ≡ Undirected

-- pairs of different nodes that make the graph k-edge-connected
pub record IsFeasible (k : ℕ) (g : GraphValue) (pairs : List (ℕ × ℕ)) : Type 0 where
  pub fit : All (Fits (length g.names)) (lines_of pairs)
  pub connected : IsEdgeConnected k (length g.names) (g.lines ++ lines_of pairs)

-- for k = 1 a partition with no edge between its classes
pub record AreComponents (g : GraphValue) (P : List (List Bool)) : Type 0 where
  pub partition : IsPartition (length g.names) P
  pub apart : between P g.lines ≡ 0

abbrev pub IsDual : ℕ → GraphValue → List (List Bool) → Type 0
IsDual k g P = (2 ≤ k → IsDisjointFamily (length g.names) P) × (k ≡ 1 → AreComponents g P)

-- half the sum of k - d(X) over the members, rounded up, and 0 where the sum is negative
abbrev pub half_bound : ℕ → GraphValue → List (List Bool) → ℕ
half_bound k g P = div_ceil (k * length P - sum_by (λ X. degree X g.lines) P) 2

-- for k = 1 the classes less one
abbrev pub bound : ℕ → GraphValue → List (List Bool) → ℕ
bound k g P = cond (k == 1) (length P - 1) (half_bound k g P)

-- the problem
abbrev pub problem : Ghosts AugmentAsk (List (ℕ × ℕ)) (List (List Bool))
problem = record {
  MOST = false;
  suits = λ ask g. Suits ask.k g;
  feasible = λ ask g pairs. IsFeasible ask.k g pairs;
  dual_feasible = λ ask g P. IsDual ask.k g P;
  value_of = λ _ _ pairs. length pairs;
  bound_of = λ ask g P. bound ask.k g P;
}
