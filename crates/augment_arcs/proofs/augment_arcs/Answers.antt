use Rattle.std.proofs.Common.{sym, ap, subst, ◌∙◌}
use Rattle.graph_core.specs.Graph.{IsWithinSize}
use Rattle.problem_defs.specs.AugmentArcs.{IsFeasible, bound}
use Rattle.problem_defs.specs.declared.cert.Family.{Family}
use Rattle.problem_defs.specs.declared.cert.Way.TheVariants.{Entering, Leaving}
use Rattle.augment_arcs.proofs.Augmented.{own_graph, star_room, split_feasible, split_equal}
use Rattle.augment_arcs.proofs.augment_arcs.Goals as goal

pub split_all-requires-clause-room : goal.split_all-requires-clause-room
split_all-requires-clause-room c = let least = c.in_ok-star.ensures in star_room (own_graph least) c.requires.suits.high (subst IsWithinSize (sym least.graph) c.requires.size)

pub split_all-requires-clause-enters : goal.split_all-requires-clause-enters
split_all-requires-clause-enters c = (own_graph c.in_ok-star.ensures).covered Entering

pub split_all-requires-clause-leaves : goal.split_all-requires-clause-leaves
split_all-requires-clause-leaves c = (own_graph c.in_ok-star.ensures).covered Leaving

pub returns-clause-certified : goal.returns-clause-certified
returns-clause-certified c =
    let least = c.in_ok-star.ensures in
    let own = own_graph least in
    let split = c.in_ok-object.ensures in
    let dual : Family = record { way = c.in_ok-star.field-0.way; sides = c.in_ok-star.field-0.family } in
    record {
      feasible = subst (λ g. IsFeasible c.args.k g c.in_ok-object.object) least.graph (split_feasible own split);
      dual_feasible = least.family.disjoint;
      equal = split_equal own split ∙ ap (λ g. bound c.args.k g dual) least.graph;
    }
