use Rattle.flow_cuts.proofs.NodeCutLaws.{tells_least}
use Rattle.flow_cuts.proofs.node_cuts.NodeCuts.is_least.Goals as goal

pub returns-clause-least : goal.returns-clause-least
returns-clause-least c =
    let f = c.args.self.now in
    tells_least f.graph.now.lines c.hold_only.ensures.only c.hold_only-2.ensures.only c.args.weight c.run.result c.known.ensures.makes.ends c.requires.u c.requires.v (rw (f.nodes, f.arcs) at c.run.ensures.least)
