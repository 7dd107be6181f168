-- A cheapest dijoin without fixed arcs (Lucchesi and Younger).
use Rattle.std.specs.Prelude.{false, ℕ, ◌≡◌, ◌≤◌, Bool, true, List, length, All, count_by, sum_by}
use Rattle.graph_core.specs.Graph.{GraphValue}
use Rattle.graph_core.specs.Side.{IsProper}
use Rattle.graph_core.specs.Lines.{enters, entering, leaving}
use Rattle.graph_core.specs.Picked.{picked, ArePicks}
use Rattle.graph_core.specs.declared.graph.Kind.TheVariants.{Directed}
use Rattle.problem_defs.specs.declared.problem.Problem.{Ghosts}
use Rattle.problem_defs.specs.declared.dijoin.DijoinAsk.{DijoinAsk}
pub mod Cert
pub mod Law
pub mod Outcomes

pub record Suits (g : GraphValue) : Type 0 where
  pub kind : g.kind ≡ Directed

-- a proper side that no arc leaves
pub record IsClosed (g : GraphValue) (U : List Bool) : Type 0 where
  pub proper : IsProper (length g.names) U
  pub closed : leaving U g.lines ≡ 0

-- distinct arcs, none fixed, one of which enters each closed side
pub record IsFeasible (g : GraphValue) (join : List ℕ) : Type 0 where
  pub picks : ArePicks g.lines join
  pub free : All (λ l. l.fixed ≡ false) (picked g.lines join)
  pub covers : (U : List Bool) → IsClosed g U → 1 ≤ entering U (picked g.lines join)

-- closed sides, of which each arc that isn't fixed enters at most as many as it costs, a repeated side counting as often as it stands in the list
pub record IsDual (g : GraphValue) (P : List (List Bool)) : Type 0 where
  pub members : All (IsClosed g) P
  pub apart : All (λ l. l.fixed ≡ false → count_by (λ U. enters U l) P ≤ l.cost) g.lines

-- what the arcs with these numbers cost together
abbrev pub cost : GraphValue → List ℕ → ℕ
cost g join = sum_by (λ l. l.cost) (picked g.lines join)

-- a closed side whose entering arcs are all fixed
pub record Forbids (g : GraphValue) (U : List Bool) : Type 0 where
  pub closed : IsClosed g U
  pub fixed : All (λ l. enters U l ≡ true → l.fixed ≡ true) g.lines

-- the problem
abbrev pub problem : Ghosts DijoinAsk (List ℕ) (List (List Bool))
problem = record {
  MOST = false;
  suits = λ _ g. Suits g;
  feasible = λ _ g join. IsFeasible g join;
  dual_feasible = λ _ g sides. IsDual g sides;
  value_of = λ _ g join. cost g join;
  bound_of = λ _ _ sides. length sides;
}
