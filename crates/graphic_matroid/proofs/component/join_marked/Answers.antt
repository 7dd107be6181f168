use Rattle.std.proofs.Common.{◌≡◌, ◌+◌, ◌<◌, length, get_or, take, Some, true, false, sym, ap, ◌∙◌, subst, arith}
use Rattle.std.proofs.lemmas.Option.{get_or_from_slice_get}
use Rattle.graphic_matroid.specs.Chosen.{chosen}
use Rattle.graphic_matroid.specs.Roots.{AreRoots, AreClasses}
use Rattle.graphic_matroid.specs.ForestLaws.{take_with}
use Rattle.graphic_matroid.proofs.RootLaws.{classes_none, roots_none}
use Rattle.graphic_matroid.proofs.Steps.{classes_without}
use Rattle.graphic_matroid.proofs.component.join_marked.Goals.{then-item, else-item}
use Rattle.graphic_matroid.proofs.component.join_marked.Goals as goal
use Rattle.graph_core.specs.Graph.{no_line}

pub loop-j-init : goal.loop-j-init
loop-j-init c = record {
  roots = roots_none (length c.args.classes.now.parents.items) c.reset.new.self.parents.items c.reset.new.self.ranks.items c.reset.ensures.parents_long c.reset.ensures.ranks_long c.reset.ensures.parents;
  low = λ v l. let z = c.reset.ensures.ranks v l in omega arith;
  classes = classes_none (length c.args.classes.now.parents.items) c.reset.new.self.parents.items c.reset.ensures.parents;
}

pub loop-j-preserved : goal.loop-j-preserved
loop-j-preserved c =
    let n = length c.args.classes.now.parents.items in
    let A = c.args.marks.now in
    let ls = c.args.lines.now in
    let j = c.loop-j.j in
    let inv = c.loop-j.invariant in
    let long : length c.loop-j.classes.parents.items ≡ n = inv.roots.parents_long in
    let short : j < length A = rw c.requires.long c.loop-j-test.true in
    elim c.if-item.branch [
      | then-item w ↦ (
          let adds = take_with n A ls j short c.loop-j-test.true no_line (get_or_from_slice_get A j true false (c.item.ensures ∙ ap Some w.if-item.true)) in
          let before = subst (λ m. AreClasses m c.loop-j.classes.parents.items (chosen (take j A) (take j ls))) (sym long) inv.classes in
          let after = subst (λ m. AreClasses m w.join_ends.new.self.parents.items (chosen (take (j + 1) A) (take (j + 1) ls))) long (w.join_ends.ensures.classes (chosen (take j A) (take j ls)) (chosen (take (j + 1) A) (take (j + 1) ls)) before adds) in
          let roots = subst (λ m. AreRoots m w.join_ends.new.self.parents.items w.join_ends.new.self.ranks.items) long w.join_ends.ensures.roots in
          record {
            roots = subst (λ k. AreRoots n k.parents.items k.ranks.items) (sym w.classes-is) roots;
            low = λ v l.
                let was = inv.low v l in
                let up = w.join_ends.ensures.low v (rw long l) in
                let same = ap (λ k. get_or k.ranks.items v 0) w.classes-is in
                omega arith;
            classes = subst (λ k. AreClasses n k.parents.items (chosen (take (j + 1) A) (take (j + 1) ls))) (sym w.classes-is) after;
          })
      | else-item w ↦ (
          let out = get_or_from_slice_get A j false false (c.item.ensures ∙ ap Some w.if-item.false) in
          let after = classes_without n A ls j no_line short c.loop-j-test.true out c.loop-j.classes.parents.items inv.classes in
          record {
            roots = subst (λ k. AreRoots n k.parents.items k.ranks.items) (sym w.classes-is) inv.roots;
            low = λ v l.
                let was = inv.low v l in
                let same = ap (λ k. get_or k.ranks.items v 0) w.classes-is in
                omega arith;
            classes = subst (λ k. AreClasses n k.parents.items (chosen (take (j + 1) A) (take (j + 1) ls))) (sym w.classes-is) after;
          })
    ]
