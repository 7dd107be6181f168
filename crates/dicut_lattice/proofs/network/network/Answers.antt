use Rattle.std.proofs.Common.{◌≡◌, ◌∙◌, ◌++◌, map, length}
use Rattle.dicut_lattice.specs.Networks.{along, arcs_with}
use Rattle.dicut_lattice.proofs.NetworkLaws.{ends-arcs_with}
use Rattle.dicut_lattice.proofs.network.network.Goals as goal

pub of_arcs-requires-clause-ends : goal.of_arcs-requires-clause-ends
of_arcs-requires-clause-ends c =
    let e : c.deref.result.now ≡ arcs_with c.args.cap c.args.graph.now.lines c.args.entering.now =
    c.deref.ensures.value ∙ c.in_ok-push_along.ensures ∙ (λ t. c.in_ok-arcs.ensures t ++ map (along c.args.cap) (c.lines.ensures t)) in
    let many = c.node_count.ensures in
    rw (e, many) (ends-arcs_with (length c.args.graph.now.names) c.args.cap c.args.graph.now.lines c.args.entering.now c.known.ensures.makes.ends c.requires.fit)
