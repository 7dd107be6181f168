use Rattle.std.proofs.Common.{◌<◌, length, sym, ap, ◌∙◌, arith, subst, List, All}
use Rattle.std.proofs.lemmas.Bool.{not-true, not-false}
use Rattle.graph_core.specs.declared.graph.Kind.TheVariants.{Undirected}
use Rattle.flow_cuts.specs.GraphArcs.{arcs_of}
use Rattle.flow_cuts.specs.Sparse.{AreJoined, IsSparseBetween}
use Rattle.flow_cuts.specs.declared.network.Cap.{Cap}
use Rattle.flow_cuts.proofs.NewNodes.{edges_are_arcs}
use Rattle.nw_orientation.proofs.JoinedLaws.{joined, parted}
use Rattle.nw_orientation.proofs.joined.are_joined.Goals as goal

pub of_arcs-requires-clause-few : goal.of_arcs-requires-clause-few
of_arcs-requires-clause-few c = omega (arith, ap length (c.deref.ensures.value ∙ c.in_ok-arcs.ensures), (edges_are_arcs c.args.lines.now c.requires.ends c.requires.few).few)

pub of_arcs-requires-clause-ends : goal.of_arcs-requires-clause-ends
of_arcs-requires-clause-ends c =
    subst (λ (arcs : List Cap). All (λ arc. (arc.tail < c.args.n) × (arc.head < c.args.n)) arcs) (sym (c.deref.ensures.value ∙ c.in_ok-arcs.ensures)) (edges_are_arcs c.args.lines.now c.requires.ends c.requires.few).ends

pub returns-clause-yes : goal.returns-clause-yes
returns-clause-yes c = λ h.
    let ls = c.args.lines.now in
    let flow = c.in_ok-flow.ensures in
    let is = ap (λ f. f.arcs) flow ∙ c.deref.ensures.value ∙ c.in_ok-arcs.ensures in
    let found : AreJoined c.args.n (arcs_of Undirected ls) c.args.a c.args.b c.args.c = rw (ap (λ f. f.nodes) flow, is) at (c.is_parted-parted.ensures.joined (not-true c.is_parted-parted.result h)) in
    joined c.args.n ls c.args.a c.args.b c.args.c found

pub returns-clause-no : goal.returns-clause-no
returns-clause-no c = λ h.
    let ls = c.args.lines.now in
    let X = c.is_parted-parted.new.outside in
    let flow = c.in_ok-flow.ensures in
    let is = ap (λ f. f.arcs) flow ∙ c.deref.ensures.value ∙ c.in_ok-arcs.ensures in
    let found : IsSparseBetween c.args.n (arcs_of Undirected ls) c.args.a c.args.b c.args.c X = rw (ap (λ f. f.nodes) flow, is) at (c.is_parted-parted.ensures.parted (not-false c.is_parted-parted.result h)) in
    (X, parted c.args.n ls c.args.a c.args.b c.args.c X found)
