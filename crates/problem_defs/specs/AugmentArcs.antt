-- Fewest new arcs that make a digraph k-arc-connected (Frank 1992).
use Rattle.std.specs.Prelude.{ℕ, ◌≡◌, ◌-◌, ◌*◌, ◌≤◌, false, List, ◌++◌, length, All, sum_by}
use Rattle.graph_core.specs.Limits.{most_k}
use Rattle.graph_core.specs.Graph.{GraphValue, Fits, lines_of}
use Rattle.graph_core.specs.Families.{IsDisjointFamily}
use Rattle.graph_core.specs.Connected.{IsArcConnected}
use Rattle.graph_core.specs.declared.graph.Kind.TheVariants.{Directed}
use Rattle.problem_defs.specs.Ways.{count_for}
use Rattle.problem_defs.specs.declared.cert.Family.{Family}
use Rattle.problem_defs.specs.declared.problem.Problem.{Ghosts}
use Rattle.problem_defs.specs.declared.augment_arcs.AugmentArcsAsk.{AugmentArcsAsk}
pub mod Cert
pub mod Law

pub record Suits (k : ℕ) (g : GraphValue) : Type 0 where
  pub low : 1 ≤ k
  pub high : k ≤ most_k
  pub kind : g.kind ≡ Directed

-- pairs of different nodes that make the digraph k-arc-connected
pub record IsFeasible (k : ℕ) (g : GraphValue) (pairs : List (ℕ × ℕ)) : Type 0 where
  pub fit : All (Fits (length g.names)) (lines_of pairs)
  pub connected : IsArcConnected k (length g.names) (g.lines ++ lines_of pairs)

abbrev pub IsDual : GraphValue → Family → Type 0
IsDual g dual = IsDisjointFamily (length g.names) dual.sides

-- the sum of k - ρ(X), or of k - δ(X), over the members, and 0 where it is negative
abbrev pub bound : ℕ → GraphValue → Family → ℕ
bound k g dual = k * length dual.sides - sum_by (count_for dual.way g.lines) dual.sides

-- the problem
abbrev pub problem : Ghosts AugmentArcsAsk (List (ℕ × ℕ)) Family
problem = record {
  MOST = false;
  suits = λ ask g. Suits ask.k g;
  feasible = λ ask g pairs. IsFeasible ask.k g pairs;
  dual_feasible = λ _ g dual. IsDual g dual;
  value_of = λ _ _ pairs. length pairs;
  bound_of = λ ask g dual. bound ask.k g dual;
}
