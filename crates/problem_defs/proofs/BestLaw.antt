-- A certificate that meets its graph proves that nothing feasible is better, by weak duality.
use Rattle.std.proofs.Common.{ℕ, ◌≡◌, None, sym, subst}
use Rattle.graph_core.specs.Graph.{GraphValue, IsGraph}
use Rattle.problem_defs.specs as of
use Rattle.problem_defs.specs.Ask.{misfit_of, KIsInRange}
use Rattle.problem_defs.specs.Best.{IsBest}
use Rattle.problem_defs.specs.Claims.{certified}
use Rattle.problem_defs.specs.Duality.{IsNoBetter}
use Rattle.problem_defs.specs.Meets.{Meets, HasObject, HasDual, HasValue}
use Rattle.problem_defs.specs.declared.ask.Ask.{Ask}
use Rattle.problem_defs.specs.declared.ask.Ask.TheVariants.{Flow, CutTree, Augment, AugmentArcs, Arborescences, Trees, Forests, Orient, Dijoin}
use Rattle.problem_defs.specs.declared.cert.Body.{Body}
use Rattle.problem_defs.specs.declared.cert.Body.TheVariants.{Tree, Turned, Walks, Edges, Arcs, Parts, Join, Never}
use Rattle.problem_defs.specs.declared.cert.ForestDual.TheVariants.{Nothing, Induced}
use Rattle.problem_defs.specs.declared.cert.PartsDual.TheVariants.{Cut, Partition, Induced as InducedSide, Nothing as NoDual}
use Rattle.problem_defs.specs.declared.cert.Cert.{Cert}
use Rattle.problem_defs.specs.declared.problem.Problem.{Ghosts}

module _ {P O D : Type 0} (problem : Ghosts P O D) (g : GraphValue) (ask : P) (value : ℕ) (object : O) (dual : D) where
  -- where each feasible object's value is within the dual's bound, and one reaches it, none is better
  reaches-best : ((other : O) → problem.feasible ask g other → problem.dual_feasible ask g dual → IsNoBetter problem.MOST (problem.value_of ask g other) (problem.bound_of ask g dual))
      → (certified problem g ask value object dual).dual → (certified problem g ask value object dual).value → (certified problem g ask value object dual).best
  reaches-best law feasible values = λ other is. subst (λ b. IsNoBetter problem.MOST (problem.value_of ask g other) b) (sym values.1) (law other is feasible)

best_of : (g : GraphValue) (ask : Ask) (body : Body) → IsGraph g → KIsInRange ask → misfit_of g ask ≡ None → HasObject g ask body → HasDual g ask body → HasValue g ask body → IsBest g ask body
best_of g (Flow s t) (Walks value rows cut) graph k_fits suits object dual values =
    reaches-best of.Flow.problem g (record { from = s; to = t }) value rows cut (λ other f d. of.Flow.Law.law s t g other cut (of.Flow.Cert.flow_suits g s t suits) f d) dual values
best_of g CutTree (Tree pairs) graph k_fits suits object dual values = tt
best_of g (Arborescences r) (Parts value rows (Cut side)) graph k_fits suits object dual values =
    reaches-best of.Arborescences.problem g (record { root = r }) value rows side (λ other f d. of.Arborescences.Law.law r g other side f d) dual values
best_of g (Augment k) (Edges value pairs sides) graph k_fits suits object dual values =
    reaches-best of.Augment.problem g (record { k = k }) value pairs sides (λ other f d. of.Augment.Law.law k g other sides graph (of.Augment.Cert.augment_suits g k k_fits suits) f d) dual values
best_of g (AugmentArcs k) (Arcs value pairs way sides) graph k_fits suits object dual values =
    reaches-best of.AugmentArcs.problem g (record { k = k }) value pairs (record { way = way; sides = sides }) (λ other f d. of.AugmentArcs.Law.law k g other (record { way = way; sides = sides }) graph (of.AugmentArcs.Cert.augment_arcs_suits g k k_fits suits) f d) dual values
best_of g Trees (Parts value rows (Partition classes)) graph k_fits suits object dual values =
    reaches-best of.Trees.problem g (record {}) value rows classes (λ other f d. of.Trees.Law.law g other classes f d) dual values
best_of g Forests (Parts value rows (InducedSide side)) graph k_fits suits object dual values =
    reaches-best of.Forests.problem g (record {}) value rows (Induced side) (λ other f d. of.Forests.Law.law g other (Induced side) f d) dual values
best_of g Forests (Parts value rows NoDual) graph k_fits suits object dual values =
    reaches-best of.Forests.problem g (record {}) value rows Nothing (λ other f d. of.Forests.Law.law g other Nothing f d) dual values
best_of g (Orient k) (Turned heads) graph k_fits suits object dual values = tt
best_of g (Orient k) (Never side) graph k_fits suits object dual values = λ heads feasible. of.Orient.Law.law k g heads side graph feasible dual
best_of g Dijoin (Join value join sides) graph k_fits suits object dual values =
    reaches-best of.Dijoin.problem g (record {}) value join sides (λ other f d. of.Dijoin.Law.law g other sides f d) dual values
best_of g Dijoin (Never side) graph k_fits suits object dual values = of.Dijoin.Law.none_exists g side dual
best_of g ask body graph k_fits suits object dual values = object

pub meets-best : (g : GraphValue) (cert : Cert) → IsGraph g → Meets g cert → IsBest g cert.ask cert.body
meets-best g cert graph meets = best_of g cert.ask cert.body graph meets.shaped.k meets.shaped.suits meets.object meets.dual meets.value
