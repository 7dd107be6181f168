use Rattle.std.proofs.Common.{◌≡◌, ◌≤◌, length, false, ap, ◌∙◌, sym, arith}
use Rattle.std.proofs.lemmas.List.{length-replicate}
use Rattle.graph_core.proofs.SideLaws.{has-below}
use Rattle.tree_packing.proofs.Singles.{only-proper}
use Rattle.tree_packing.proofs.Start.{least-first, least-next}
use Rattle.tree_packing.proofs.first.least_node.Goals as goal
use Rattle.tree_packing.proofs.first.least_node.Goals.{then-degree, else-degree}

pub loop-v-init : goal.loop-v-init
loop-v-init c =
    let n = c.node_count-n.result in
    let two : 2 ≤ c.node_count-n.result = omega (arith, c.requires, c.node_count-n.ensures) in
    let long : length c.hold_only.new.self ≡ c.node_count-n.result = c.hold_only.ensures.long ∙ ap length c.in_ok-least.ensures ∙ length-replicate n false in
    record {
      long = ap length c.in_ok-node.ensures ∙ length-replicate n false;
      proper = only-proper n 0 c.hold_only.new.self two long c.hold_only.ensures.only;
      least = least-first n c.args.graph.now.lines c.hold_only.new.self long c.hold_only.ensures.only;
    }

pub loop-v-preserved : goal.loop-v-preserved
loop-v-preserved c =
    let n = c.node_count-n.result in
    let ls = c.args.graph.now.lines in
    let inv = c.loop-v.invariant in
    let Z = c.hold_only-in-loop-v.new.self in
    let only = c.hold_only-in-loop-v.ensures.only in
    let long : length Z ≡ n = c.hold_only-in-loop-v.ensures.long ∙ inv.long in
    let counted = c.degree.ensures.count in
    let least = c.degree-in-loop-v.ensures.count in
    elim c.if-degree.branch [
      | then-degree w ↦
          rw (w.least-is ∙ w.set_to.ensures) (record {
            long = long;
            proper = only-proper n c.loop-v.v Z (omega (arith, c.requires, c.node_count-n.ensures)) long only;
            least = least-next c.loop-v.v n ls c.loop-v.least Z Z long only inv.least (omega (arith, counted, least, w.if-degree.true)) (omega arith);
          })
      | else-degree w ↦
          rw w.least-is (record {
            long = long;
            proper = inv.proper;
            least = least-next c.loop-v.v n ls c.loop-v.least Z c.loop-v.least long only inv.least (omega arith) (omega (arith, counted, least, w.if-degree.false));
          })
    ]

pub returns-clause-least : goal.returns-clause-least
returns-clause-least c = λ Y v long y. c.loop-v.invariant.least Y v (omega (arith, has-below Y v y.here, c.node_count-n.ensures, c.loop-v-test.false, c.loop-v.auto.v-end)) (long ∙ sym c.node_count-n.ensures) y
