use Rattle.std.proofs.Common.{◌≡◌, ◌<◌, length, map, false, ap, ◌∙◌, arith}
use Rattle.std.proofs.lemmas.List.{length-replicate}
use Rattle.flow_cuts.specs.Cuts.{IsLeastCapacity, IsMinimumCut}
use Rattle.problem_defs.specs.declared.cert.Way.TheVariants.{Entering}
use Rattle.flow_cuts.specs.NewNode.{arc_by}
use Rattle.flow_cuts.proofs.NewNodes.{ends-arcs_by}
use Rattle.edmonds_branchings.proofs.LeastSide.{least_first, least_skip, least_next, least_all}
use Rattle.edmonds_branchings.proofs.arborescences.least_side.Goals as goal
use Rattle.edmonds_branchings.proofs.arborescences.least_side.Goals.{then-v-root, else-v-root}

pub of_arcs-requires-clause-ends : goal.of_arcs-requires-clause-ends
of_arcs-requires-clause-ends c = rw (c.deref.ensures.value, c.in_ok-arcs.ensures, c.lines.ensures, c.node_count-n.ensures) (ends-arcs_by Entering c.args.graph.now.lines c.known.ensures.makes.ends)

pub loop-v-init : goal.loop-v-init
loop-v-init c =
    let n = length c.args.graph.now.names in
    let arcs : c.deref.result.now ≡ map (arc_by Entering) c.args.graph.now.lines = c.deref.ensures.value ∙ c.in_ok-arcs.ensures ∙ ap (map (arc_by Entering)) c.lines.ensures in
    record {
      nodes = ap (λ f. f.nodes) c.in_ok-flow.ensures ∙ c.node_count-n.ensures;
      arcs = ap (λ f. f.arcs) c.in_ok-flow.ensures ∙ arcs;
      long = ap length c.in_ok-inside.ensures ∙ length-replicate c.node_count-n.result false ∙ c.node_count-n.ensures;
      least = least_first c.requires.root c.requires.many c.hold_only-2.ensures.only
          (c.hold_only-2.ensures.long ∙ ap length c.in_ok-least.ensures ∙ length-replicate c.node_count-n.result false ∙ c.node_count-n.ensures)
          c.complement.ensures.complement c.entering-value.ensures.count;
    }

pub loop-v-preserved : goal.loop-v-preserved
loop-v-preserved c =
    let n = length c.args.graph.now.names in
    let ls = c.args.graph.now.lines in
    let inv = c.loop-v.invariant in
    elim c.if-v-root.branch [
      | then-v-root w ↦
          let value : IsLeastCapacity n w.hold_only-then-v-root.new.self c.hold_only.new.self (map (arc_by Entering) ls) c.loop-v.value w.lower-value.result = rw (inv.nodes, inv.arcs) at w.lower-value.ensures.value in
          let cut : w.lower-value.result < c.loop-v.value → IsMinimumCut n w.hold_only-then-v-root.new.self c.hold_only.new.self (map (arc_by Entering) ls) w.lower-value.result w.lower-value.new.least = rw (inv.nodes, inv.arcs) at w.lower-value.ensures.cut in
          rw (w.flow-is, w.inside-is, w.value-is, w.least-is) (record {
            nodes = w.lower-value.ensures.nodes ∙ inv.nodes;
            arcs = w.lower-value.ensures.arcs ∙ inv.arcs;
            long = w.hold_only-then-v-root.ensures.long ∙ inv.long;
            least = least_next inv.least w.hold_only-then-v-root.ensures.only c.hold_only.ensures.only value w.lower-value.ensures.kept cut;
          })
      | else-v-root w ↦ rw (w.flow-is, w.inside-is, w.value-is, w.least-is) (record { nodes = inv.nodes; arcs = inv.arcs; long = inv.long; least = least_skip inv.least w.if-v-root.false })
    ]

pub returns : goal.returns
returns c = least_all c.loop-v.invariant.least (omega (arith, c.loop-v-test.false, c.node_count-n.ensures))
