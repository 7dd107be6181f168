use Rattle.std.proofs.Common.{◌≡◌, ◌∙◌, ℕ, List, length, ap, sym, subst}
use Rattle.std.specs.Prelude.{map, All, IfOk, Some, None}
use Rattle.graph_core.specs.declared.graph.Kind.{Kind}
use Rattle.graph_core.specs.Graph.{Fits, no_line}
use Rattle.graph_core.specs.declared.graph.Line.{Line}
use Rattle.flow_cuts.specs.declared.network.Link.{Link}
use Rattle.flow_cuts.specs.GraphArcs.{arcs_of}
use Rattle.flow_cuts.specs.Residual.{link_along, AreLinksOf}
use Rattle.flow_cuts.proofs.LinkLaws.{link_ends, graph_ends, AreLinksOf-graph}
use Rattle.flow_cuts.proofs.flow.Flow.of_graph.Goals as goal

fits_at : (n m : ℕ) (ls : List Line) → n ≡ m → All (Fits m) ls → All (Fits n) ls
fits_at n m ls e h = let P : ℕ → Type 0 = λ k. All (Fits k) ls in subst P (sym e) h

pub over-requires-clause-from : goal.over-requires-clause-from
over-requires-clause-from c = λ s lt.
    let n = c.node_count.result in
    let ends = graph_ends n c.kind-kind.result c.args.graph.now.lines (fits_at n (length c.args.graph.now.names) c.args.graph.now.lines c.node_count.ensures c.known.ensures.makes.ends) in
    (link_ends n (link_along c.kind-kind.result) c.args.graph.now.lines c.in_ok-whole.whole.items no_line (c.in_ok-whole.ensures.links ∙ ap (map (link_along c.kind-kind.result)) c.lines.ensures) ends s lt).0

pub over-requires-clause-to : goal.over-requires-clause-to
over-requires-clause-to c = λ s lt.
    let n = c.node_count.result in
    let ends = graph_ends n c.kind-kind.result c.args.graph.now.lines (fits_at n (length c.args.graph.now.names) c.args.graph.now.lines c.node_count.ensures c.known.ensures.makes.ends) in
    (link_ends n (link_along c.kind-kind.result) c.args.graph.now.lines c.in_ok-whole.whole.items no_line (c.in_ok-whole.ensures.links ∙ ap (map (link_along c.kind-kind.result)) c.lines.ensures) ends s lt).1

pub over-requires-clause-graph : goal.over-requires-clause-graph
over-requires-clause-graph c =
    c.in_ok-whole.ensures.links ∙ ap (map (link_along c.kind-kind.result)) (c.lines.ensures ∙ sym (c.in_ok-lines.ensures.items ∙ c.lines-2.ensures))

pub over-requires-clause-arcs : goal.over-requires-clause-arcs
over-requires-clause-arcs c =
    let e = c.in_ok-whole.ensures.links ∙ ap (map (link_along c.kind-kind.result)) (c.lines.ensures ∙ sym (c.in_ok-lines.ensures.items ∙ c.lines-2.ensures)) in
    let P : List Link → Type 0 = AreLinksOf (arcs_of c.kind-kind.result c.in_ok-lines.lines.items) in
    subst P (sym e) (AreLinksOf-graph c.kind-kind.result c.in_ok-lines.lines.items)

pub returns : goal.returns
returns c =
    let P : ℕ → Kind → List Line → Type 0 = λ n k ls. IfOk c.over.result (λ flow. flow ≡ record { nodes = n; arcs = arcs_of k ls; graph = Some (record { kind = k; lines = ls }); last = None }) in
    let Q : ℕ → Type 0 = λ n. P n c.kind-kind.result c.in_ok-lines.lines.items in
    let R : Kind → Type 0 = λ k. P (length c.args.graph.now.names) k c.in_ok-lines.lines.items in
    let S : List Line → Type 0 = P (length c.args.graph.now.names) c.args.graph.now.kind in
    subst S (c.in_ok-lines.ensures.items ∙ c.lines-2.ensures) (subst R c.kind-kind.ensures (subst Q c.node_count.ensures c.over.ensures))
