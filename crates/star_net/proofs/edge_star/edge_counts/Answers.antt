use Rattle.std.proofs.Common.{◌≡◌, length, ◌∙◌, ap}
use Rattle.std.proofs.lemmas.Result.{IfOk-weaker}
use Rattle.graph_core.specs.Lines.{degree}
use Rattle.graph_core.specs.declared.graph.Kind.TheVariants.{Undirected}
use Rattle.flow_cuts.specs.GraphArcs.{arcs_of}
use Rattle.star_net.specs.Lowered.{capacity_over, IsLowered}
use Rattle.flow_cuts.proofs.NewNodes.{edges_are_arcs}
use Rattle.star_net.proofs.TightFamilies.{edges_lowered}
use Rattle.star_net.proofs.edge_star.edge_counts.Goals as goal

pub least_counts-requires-clause-arcs : goal.least_counts-requires-clause-arcs
least_counts-requires-clause-arcs c =
    let g = c.args.graph.now in
    rw (c.deref.ensures.value, c.in_ok-arcs.ensures, c.lines.ensures, c.node_count.ensures) (edges_are_arcs g.lines c.known.ensures.makes.ends c.known.ensures.makes.few)

pub returns : goal.returns
returns c =
    let g = c.args.graph.now in
    let arcs : c.deref.result.now ≡ arcs_of Undirected g.lines = c.deref.ensures.value ∙ c.in_ok-arcs.ensures ∙ ap (arcs_of Undirected) c.lines.ensures in
    IfOk-weaker c.least_counts.result (λ least. IsLowered c.node_count.result c.args.k (capacity_over c.deref.result.now) c.node_count.result least.counts.items least.family)
    (λ least. IsLowered (length g.names) c.args.k (λ X. degree X g.lines) (length g.names) least.counts.items least.family)
    (λ least s. edges_lowered g.lines (rw (arcs, c.node_count.ensures) at s)) c.least_counts.ensures
