use Rattle.std.proofs.Common.{◌≡◌, length, map, ◌∙◌, ap}
use Rattle.std.proofs.lemmas.Result.{IfOk-weaker}
use Rattle.flow_cuts.specs.NewNode.{arc_by}
use Rattle.problem_defs.specs.Ways.{count_for}
use Rattle.star_net.specs.Lowered.{capacity_over, IsLowered}
use Rattle.flow_cuts.proofs.NewNodes.{lines_are_arcs}
use Rattle.star_net.proofs.TightFamilies.{arcs_lowered}
use Rattle.star_net.proofs.arc_star.arc_counts.Goals as goal

pub least_counts-requires-clause-arcs : goal.least_counts-requires-clause-arcs
least_counts-requires-clause-arcs c =
    let g = c.args.graph.now in
    rw (c.deref.ensures.value, c.in_ok-arcs.ensures, c.lines.ensures, c.node_count.ensures) (lines_are_arcs c.args.way g.lines c.known.ensures.makes.ends c.known.ensures.makes.few)

pub returns : goal.returns
returns c =
    let g = c.args.graph.now in
    let way = c.args.way in
    let arcs : c.deref.result.now ≡ map (arc_by way) g.lines = c.deref.ensures.value ∙ c.in_ok-arcs.ensures ∙ ap (map (arc_by way)) c.lines.ensures in
    IfOk-weaker c.least_counts.result (λ least. IsLowered c.node_count.result c.args.k (capacity_over c.deref.result.now) c.node_count.result least.counts.items least.family)
    (λ least. IsLowered (length g.names) c.args.k (count_for way g.lines) (length g.names) least.counts.items least.family)
    (λ least s. arcs_lowered way g.lines (rw (arcs, c.node_count.ensures) at s)) c.least_counts.ensures
