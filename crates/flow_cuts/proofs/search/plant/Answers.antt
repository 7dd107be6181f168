use Rattle.std.proofs.Common.{◌≡◌, ◌<◌, length, arith, ap, sym, ◌∙◌, refl, true, false}
use Rattle.graph_core.specs.Side.{has}
use Rattle.flow_cuts.proofs.SearchTrees.{place_left, IsPlanted-none, IsPlanted-root, IsPlanted-skip}
use Rattle.flow_cuts.proofs.search.plant.Goals as goal
use Rattle.flow_cuts.proofs.search.plant.Goals.{then-has, else-has}

pub loop-v-init : goal.loop-v-init
loop-v-init c = IsPlanted-none _ _ _ _ _ (c.clear.ensures.len ∙ c.requires.marks) (ap (λ q. length q.items) c.clear.ensures.queue ∙ c.requires.queue) c.clear.ensures.count c.clear.ensures.marks

pub add-requires-clause-place : goal.add-requires-clause-place
add-requires-clause-place c =
    let p = c.loop-v.invariant in
    let lt : c.loop-v.v < length c.loop-v.tree.marks.items = omega (arith, p.filled.marks_len) in
    let few = place_left _ c.loop-v.tree.marks.items c.loop-v.tree.queue.items c.loop-v.tree.count c.loop-v.v p.filled lt (p.later c.loop-v.v (omega arith)) in
    omega (arith, few, p.filled.queue_len)

pub loop-v-preserved : goal.loop-v-preserved
loop-v-preserved c = elim c.if-has.branch [
  | then-has w ↦
      let here : has c.args.inside.now c.loop-v.v ≡ true = sym c.has.ensures ∙ w.if-has.true in
      rw (w.tree-is, w.add.ensures.marks, w.add.ensures.queue, w.add.ensures.count)
      (IsPlanted-root _ _ c.loop-v.v _ _ _ _ c.loop-v.invariant (omega arith) refl (omega arith) here)
  | else-has w ↦
      let none : has c.args.inside.now c.loop-v.v ≡ false = sym c.has.ensures ∙ w.if-has.false in
      rw w.tree-is (IsPlanted-skip _ _ c.loop-v.v _ _ _ c.loop-v.invariant none)
]
