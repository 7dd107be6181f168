use Rattle.std.proofs.Common.{◌≡◌, false, true, set, sym, ◌∙◌, subst}
use Rattle.std.proofs.lemmas.List.{get_or_read}
use Rattle.graph_core.specs.Side.{has}
use Rattle.graph_core.specs.Trees.{IsAcyclic}
use Rattle.graphic_matroid.specs.Chosen.{chosen}
use Rattle.graph_core.specs.Labels.{Adds}
use Rattle.graphic_matroid.specs.Roots.{AreClasses}
use Rattle.graphic_matroid.proofs.GrowingLaws.{chosen_adds}
use Rattle.graphic_matroid.proofs.graphic.GraphicMatroid.takes.Goals as goal

pub returns-else-index : goal.returns-else-index
returns-else-index c =
    let n = c.args.self.now.nodes in
    let ls = c.args.self.now.lines.items in
    let e = c.args.element in
    let forest = c.args.set.now in
    let A = forest.marks.items in
    let parents = forest.classes.parents.items in
    let kept = c.requires.kept in
    let long = kept.roots.parents_long in
    let out : has A e ≡ false = sym (get_or_read A e c.index.result.now (rw kept.long c.requires.below) c.index.ensures false) ∙ c.if-index.false in
    let line = c.index-else-index.result.now in
    let adds = subst (λ l. Adds (chosen A ls) l (chosen (set A e true) ls)) (sym c.index-else-index.ensures) (chosen_adds n ls A parents forest.classes.ranks.items kept e c.requires.below out line) in
    let answer = c.two_roots.ensures.forest (chosen A ls) (chosen (set A e true) ls) (subst (λ m. AreClasses m parents (chosen A ls)) (sym long) kept.classes) adds (subst (λ m. IsAcyclic m (chosen A ls)) (sym long) kept.forest) in (
      λ h. subst (λ m. IsAcyclic m (chosen (set A e true) ls)) long (answer.0 (sym c.is_some.ensures ∙ h)),
      λ h. c.is_some.ensures ∙ answer.1 (subst (λ m. IsAcyclic m (chosen (set A e true) ls)) (sym long) h),
    )
