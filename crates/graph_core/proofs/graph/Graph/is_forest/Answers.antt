use Rattle.std.proofs.Common.{◌≡◌, ◌+◌, ◌++◌, length, take, drop, sym, ap, ◌∙◌, subst, refl}
use Rattle.std.proofs.lemmas.Bool.{false≢true}
use Rattle.std.proofs.lemmas.List.{take_all}
use Rattle.std.proofs.Math.Seq.{take-append_seam}
use Rattle.graph_core.specs.Picked.{picked}
use Rattle.graph_core.specs.Trees.{IsAcyclic}
use Rattle.graph_core.proofs.ForestRows.{AreLabels, labels_own, row_tail, row_head, row_labels, row_forest, row_circuit, row_is_forest}
use Rattle.graph_core.proofs.LabelLaws.{forest_none}
use Rattle.graph_core.proofs.graph.Graph.is_forest.Goals as goal

pub loop-j-init : goal.loop-j-init
loop-j-init c =
    let n = length c.args.self.now.names in
    record {
      labels = labels_own n c.in_ok-labels.labels.items (c.in_ok-labels.ensures.long ∙ c.node_count.ensures) (λ v below. c.in_ok-labels.ensures.each v (rw c.node_count.ensures below));
      forest = forest_none n;
    }

pub join_ends-requires-clause-tail : goal.join_ends-requires-clause-tail
join_ends-requires-clause-tail c =
    let g = c.args.self.now in
    rw c.deref_mut.ensures.value (row_tail (length g.names) g.lines c.args.row.now c.loop-j.j-index c.line.result c.loop-j.labels.items c.known.ensures.makes.ends c.loop-j-test.true c.line.ensures c.loop-j.invariant.labels)

pub join_ends-requires-clause-head : goal.join_ends-requires-clause-head
join_ends-requires-clause-head c =
    let g = c.args.self.now in
    rw c.deref_mut.ensures.value (row_head (length g.names) g.lines c.args.row.now c.loop-j.j-index c.line.result c.loop-j.labels.items c.known.ensures.makes.ends c.loop-j-test.true c.line.ensures c.loop-j.invariant.labels)

pub returns-then-not-join_ends : goal.returns-then-not-join_ends
returns-then-not-join_ends c =
    let g = c.args.self.now in
    let old = c.deref_mut.result.now in
    let labels = subst (λ ls. AreLabels (length g.names) ls (picked g.lines (take c.loop-j.j-index c.args.row.now))) (sym c.deref_mut.ensures.value) c.loop-j.invariant.labels in (
      λ never. absurd (false≢true never),
      λ forest. absurd (row_circuit (length g.names) g.lines c.args.row.now c.loop-j.j-index c.line.result old c.known.ensures.makes.ends c.loop-j-test.true c.line.ensures labels (sym c.join_ends.ensures.two ∙ c.if-not-join_ends.true) forest),
    )

pub loop-j-preserved : goal.loop-j-preserved
loop-j-preserved c =
    let g = c.args.self.now in
    let n = length g.names in
    let j = c.loop-j.j-index in
    let old = c.deref_mut.result.now in
    let new = c.join_ends.new.labels in
    let ends = c.known.ensures.makes.ends in
    let labels = subst (λ ls. AreLabels n ls (picked g.lines (take j c.args.row.now))) (sym c.deref_mut.ensures.value) c.loop-j.invariant.labels in
    let rest = drop (length new) c.loop-j.labels.items in
    let is : take c.loop-j.labels.len (new ++ rest) ≡ new = ap (λ k. take k (new ++ rest)) (sym (c.join_ends.ensures.long ∙ c.deref_mut.ensures.len)) ∙ take-append_seam new rest in
    record {
      labels = subst (λ ls. AreLabels n ls (picked g.lines (take (j + 1) c.args.row.now))) (sym is)
          (row_labels n g.lines c.args.row.now j c.line.result old ends c.loop-j-test.true c.line.ensures labels new c.join_ends.ensures.long c.join_ends.ensures.joined);
      forest = row_forest n g.lines c.args.row.now j c.line.result old ends c.loop-j-test.true c.line.ensures labels (sym c.join_ends.ensures.two ∙ c.if-not-join_ends.false) c.loop-j.invariant.forest;
    }

pub returns : goal.returns
returns c =
    let g = c.args.self.now in
    let whole = subst (λ js. IsAcyclic (length g.names) (picked g.lines js)) (take_all c.loop-j.j-index c.args.row.now c.loop-j-test.false) c.loop-j.invariant.forest in
    (λ _. row_is_forest (length g.names) g.lines c.args.row.now c.known.ensures.makes.ends c.requires whole, λ _. refl)
