-- What a certificate claims of its graph, by each ask and its bodies.
use Rattle.std.specs.Prelude.{ℕ, ◌≡◌}
use Rattle.graph_core.specs.Graph.{GraphValue}
use Rattle.problem_defs.specs.CutTree.{IsSpanningTree, AreLeastCuts}
use Rattle.problem_defs.specs.Duality.{IsNoBetter}
use Rattle.problem_defs.specs.Arborescences.{problem as arborescences}
use Rattle.problem_defs.specs.Augment.{problem as augment}
use Rattle.problem_defs.specs.AugmentArcs.{problem as augment_arcs}
use Rattle.problem_defs.specs.Dijoin.{problem as dijoin, Forbids as NoDijoin}
use Rattle.problem_defs.specs.Flow.{problem as flow}
use Rattle.problem_defs.specs.Forests.{problem as forests}
use Rattle.problem_defs.specs.Orient as orient
use Rattle.problem_defs.specs.Trees.{problem as trees}
use Rattle.problem_defs.specs.declared.ask.Ask.{Ask}
use Rattle.problem_defs.specs.declared.ask.Ask.TheVariants.{Flow, CutTree, Augment, AugmentArcs, Arborescences, Trees, Forests, Orient, Dijoin}
use Rattle.problem_defs.specs.declared.cert.Body.{Body}
use Rattle.problem_defs.specs.declared.cert.Body.TheVariants.{Tree, Turned, Walks, Edges, Arcs, Parts, Join, Never}
use Rattle.problem_defs.specs.declared.cert.ForestDual.TheVariants.{Nothing, Induced}
use Rattle.problem_defs.specs.declared.cert.PartsDual.TheVariants.{Cut, Partition, Induced as InducedSide, Nothing as NoDual}
use Rattle.problem_defs.specs.declared.problem.Problem.{Ghosts}

pub record Claims : Type 1 where
  -- the object is feasible
  pub object : Type 0
  -- the dual is feasible
  pub dual : Type 0
  -- the written value, the object's value and the dual's bound are equal
  pub value : Type 0
  -- nothing feasible is better
  pub best : Type 0

-- what a value, an object and a dual claim of a problem
abbrev pub certified : {P O D : Type 0} → Ghosts P O D → GraphValue → P → ℕ → O → D → Claims
certified {O = O} problem g ask value object dual = record {
  object = problem.feasible ask g object;
  dual = problem.dual_feasible ask g dual;
  value = (value ≡ problem.value_of ask g object) × (problem.value_of ask g object ≡ problem.bound_of ask g dual);
  best = (other : O) → problem.feasible ask g other → IsNoBetter problem.MOST (problem.value_of ask g other) (problem.value_of ask g object);
}

-- what an object claims that has no value
abbrev pub valueless : Type 0 → Claims
valueless feasible = record { object = feasible; dual = Unit {0}; value = Unit {0}; best = Unit {0} }

-- what a side claims that forbids each object
abbrev pub forbidding : {O : Type 0} → Type 0 → (O → Type 0) → Claims
forbidding {O} forbids feasible = record { object = Unit {0}; dual = forbids; value = Unit {0}; best = (object : O) → feasible object → ⊥ }

-- A further problem joins by its line. No other body answers an ask.
abbrev pub claims : GraphValue → Ask → Body → Claims
claims g (Flow s t) (Walks value rows cut) = certified flow g (record { from = s; to = t }) value rows cut
claims g CutTree (Tree pairs) = record { object = IsSpanningTree g pairs; dual = AreLeastCuts g pairs; value = Unit {0}; best = Unit {0} }
claims g (Augment k) (Edges value pairs sides) = certified augment g (record { k = k }) value pairs sides
claims g (Arborescences r) (Parts value rows (Cut side)) = certified arborescences g (record { root = r }) value rows side
claims g (AugmentArcs k) (Arcs value pairs way sides) = certified augment_arcs g (record { k = k }) value pairs (record { way = way; sides = sides })
claims g Trees (Parts value rows (Partition classes)) = certified trees g (record {}) value rows classes
claims g Forests (Parts value rows (InducedSide side)) = certified forests g (record {}) value rows (Induced side)
claims g Forests (Parts value rows NoDual) = certified forests g (record {}) value rows Nothing
claims g (Orient k) (Turned heads) = valueless (orient.IsFeasible k g heads)
claims g (Orient k) (Never side) = forbidding (orient.Forbids k g side) (orient.IsFeasible k g)
claims g Dijoin (Join value join sides) = certified dijoin g (record {}) value join sides
claims g Dijoin (Never side) = forbidding (NoDijoin g side) (dijoin.feasible (record {}) g)
claims g ask body = record { object = ⊥; dual = ⊥; value = ⊥; best = ⊥ }
