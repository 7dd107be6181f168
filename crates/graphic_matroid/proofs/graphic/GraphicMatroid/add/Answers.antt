use Rattle.std.proofs.Common.{◌≡◌, false, true, set, sym, ◌∙◌, subst, arith}
use Rattle.std.proofs.lemmas.List.{get_or_read}
use Rattle.graph_core.specs.Side.{has}
use Rattle.graphic_matroid.specs.Chosen.{chosen}
use Rattle.graph_core.specs.Labels.{Adds}
use Rattle.graphic_matroid.specs.Roots.{AreRoots, AreClasses}
use Rattle.graphic_matroid.proofs.GrowingLaws.{rank_most, chosen_adds, forest_grown}
use Rattle.graphic_matroid.proofs.graphic.GraphicMatroid.add.Goals as goal

pub join_ends-requires-clause-low : goal.join_ends-requires-clause-low
join_ends-requires-clause-low c = λ v l.
    let g = c.args.self.now in
    let forest = c.args.set.now in
    let few = g.few_lines in
    let most = rank_most g.nodes g.lines.items forest.marks.items forest.classes.parents.items forest.classes.ranks.items c.requires.kept v (rw (← c.requires.kept.roots.parents_long) l) in
    omega arith

pub returns-then-not-index-clause-kept : goal.returns-then-not-index-clause-kept
returns-then-not-index-clause-kept c =
    let n = c.args.self.now.nodes in
    let ls = c.args.self.now.lines.items in
    let e = c.args.element in
    let forest = c.args.set.now in
    let A = forest.marks.items in
    let parents = forest.classes.parents.items in
    let ranks = forest.classes.ranks.items in
    let made = c.join_ends.new.self in
    let kept = c.requires.kept in
    let long = kept.roots.parents_long in
    let out : has A e ≡ false = sym (get_or_read A e c.index.result.now (rw kept.long c.requires.below) c.index.ensures false) ∙ c.if-not-index.true in
    let line = c.index-then-not-index.result.now in
    let adds = subst (λ l. Adds (chosen A ls) l (chosen (set A e true) ls)) (sym c.index-then-not-index.ensures) (chosen_adds n ls A parents ranks kept e c.requires.below out line) in
    let classes = c.join_ends.ensures.classes (chosen A ls) (chosen (set A e true) ls) (subst (λ m. AreClasses m parents (chosen A ls)) (sym long) kept.classes) adds in
    forest_grown n ls A parents ranks kept e c.requires.below out made.parents.items made.ranks.items
    (subst (λ m. AreRoots m made.parents.items made.ranks.items) long c.join_ends.ensures.roots)
    (subst (λ m. AreClasses m made.parents.items (chosen (set A e true) ls)) long classes)
    (λ v l. c.join_ends.ensures.low v (rw long l)) c.requires.stays
