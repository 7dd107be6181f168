use Rattle.std.proofs.Common.{◌∷◌, ◌++◌, [], length, sym, ◌∙◌}
use Rattle.std.specs.Prelude.{slice_index}
use Rattle.graphic_matroid.proofs.ComponentLaws.{class_more, class_same}
use Rattle.graphic_matroid.proofs.component.sides_of.Goals as goal
use Rattle.graphic_matroid.proofs.component.sides_of.Goals.{then-roots-v+in_ok-class_of+in_ok-push, else-roots-v}

pub loop-v-preserved : goal.loop-v-preserved
loop-v-preserved c =
    let n = length c.args.roots.now in
    let lab = slice_index c.args.roots.now in
    let v = c.loop-v.v in
    elim c.if-roots-v.branch [
      | then-roots-v+in_ok-class_of+in_ok-push w ↦ w.sides-is ∙ w.in_ok-push.ensures.ok ∙ (λ t. c.loop-v.invariant t ++ w.in_ok-class_of.ensures t ∷ []) ∙ sym (class_more n lab v w.if-roots-v.true)
      | else-roots-v w ↦ w.sides-is ∙ c.loop-v.invariant ∙ sym (class_same n lab v w.if-roots-v.false)
    ]
