use Rattle.flow_cuts.proofs.StarFlows.{few_arcs, new_ends}
use Rattle.flow_cuts.proofs.star_flow.StarFlow.new.Goals as goal

pub of_arcs-requires-clause-few : goal.of_arcs-requires-clause-few
of_arcs-requires-clause-few c = rw (c.deref.ensures.value, c.in_ok-network.ensures) (few_arcs c.args.counts.now c.requires.arcs c.requires.nodes)

pub of_arcs-requires-clause-ends : goal.of_arcs-requires-clause-ends
of_arcs-requires-clause-ends c = rw (c.deref.ensures.value, c.in_ok-network.ensures) (new_ends c.args.counts.now c.requires.arcs c.requires.nodes)
