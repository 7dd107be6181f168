use Rattle.std.proofs.Common.{length, sym, ap, ◌∙◌, arith}
use Rattle.graph_core.specs.declared.graph.Kind.TheVariants.{Undirected}
use Rattle.flow_cuts.specs.Cuts.{IsLeastCapacity, IsMinimumCut}
use Rattle.flow_cuts.specs.GraphArcs.{arcs_of}
use Rattle.flow_cuts.proofs.NodeCutLaws.{falls_short, least_node_cut}
use Rattle.flow_cuts.proofs.node_cuts.NodeCuts.least_cut.Goals as goal

pub side-requires-clause-short : goal.side-requires-clause-short
side-requires-clause-short c =
    let f = c.args.self.now in
    let ls = f.graph.now.lines in
    let run = c.run-value.ensures in
    let least : IsLeastCapacity f.flow.nodes c.hold_only.new.self c.hold_only-2.new.self (arcs_of Undirected ls) _ c.run-value.result = rw f.arcs at run.least in
    let few = falls_short ls c.hold_only.ensures.only c.hold_only-2.ensures.only c.run-value.result c.requires.apart (c.hold_only.ensures.long ∙ f.inside_long ∙ sym f.nodes) least.least in
    (_, ap (λ v. v.last) run.ran, omega (arith, few, c.line_count.ensures.count))

pub returns-clause-cut : goal.returns-clause-cut
returns-clause-cut c =
    let f = c.args.self.now in
    let ls = f.graph.now.lines in
    let ran = c.run-value.ensures.ran in
    let cut = (c.side.ensures _ (ap (λ v. v.last) ran)).cut in
    let same : IsMinimumCut (length f.graph.now.names) c.hold_only.new.self c.hold_only-2.new.self (arcs_of Undirected ls) c.run-value.result c.side.new.into = rw (ap (λ v. v.nodes) ran ∙ f.nodes, ap (λ v. v.arcs) ran ∙ f.arcs) at cut in
    least_node_cut ls c.hold_only.ensures.only c.hold_only-2.ensures.only c.run-value.result c.side.new.into same
