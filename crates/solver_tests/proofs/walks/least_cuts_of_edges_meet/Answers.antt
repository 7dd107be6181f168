use Rattle.graph_core.specs.declared.graph.Kind.TheVariants.{Undirected}
use Rattle.flow_cuts.specs.GraphArcs.{arcs_of}
use Rattle.solver_tests.proofs.walks.least_cuts_of_edges_meet.Goals as goal

pub returns : goal.returns
returns c =
    let law = rw c.new.ensures at c.least_cuts_meet_and_join.ensures in
    λ I O X Y value a b. (law (arcs_of Undirected c.args.graph.now.lines) I O X Y value (c.capacity_is_the_cut.ensures.edges c.args.graph.now) a b).0
