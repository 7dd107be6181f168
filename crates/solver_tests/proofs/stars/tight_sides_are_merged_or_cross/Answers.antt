use Rattle.std.proofs.Common.{length, sym, subst}
use Rattle.graph_core.specs.Graph.{GraphValue}
use Rattle.cut_fn.specs.Covered.{IsCovered}
use Rattle.cut_fn.specs.Stars.{star_of, star_enter}
use Rattle.problem_defs.specs.declared.cert.Way.TheVariants.{Entering}
use Rattle.solver_tests.proofs.stars.tight_sides_are_merged_or_cross.Goals as goal

pub merges-requires : goal.merges-requires
merges-requires g c =
    let found = c.in_ok-found.ensures in
    subst (λ (graph : GraphValue). IsCovered (length graph.names) 2 (star_enter (star_of c.in_ok-found.found.star))) (sym found.graph) (found.covered Entering)
