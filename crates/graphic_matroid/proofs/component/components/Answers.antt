use Rattle.std.proofs.Common.{◌≡◌, length, count_by, sym, ap, ◌∙◌, subst, arith}
use Rattle.std.specs.Prelude.{slice_index}
use Rattle.std.proofs.lemmas.Result.{IfOk-weaker}
use Rattle.graphic_matroid.specs.Chosen.{chosen}
use Rattle.graphic_matroid.specs.Unfit.{unfit}
use Rattle.graphic_matroid.specs.Roots.{AreClasses}
use Rattle.graphic_matroid.specs.Components.{AreComponents, classes_of}
use Rattle.graphic_matroid.specs.ChosenLaws.{chosen-all}
use Rattle.graphic_matroid.proofs.RootLaws.{count_by-unfit}
use Rattle.graphic_matroid.proofs.ComponentLaws.{components_of}
use Rattle.graphic_matroid.proofs.component.components.Goals as goal

pub join_marked-requires-clause-fit : goal.join_marked-requires-clause-fit
join_marked-requires-clause-fit c =
    let nodes = c.in_ok-classes.ensures.parents_long ∙ c.node_count.ensures in
    subst (λ ls. count_by (unfit (length c.in_ok-classes.classes.parents.items)) ls ≡ 0) (sym c.lines.ensures)
    (subst (λ n. count_by (unfit n) c.args.graph.now.lines ≡ 0) (sym nodes) (count_by-unfit (length c.args.graph.now.names) c.args.graph.now.lines c.known.ensures.makes.ends))

pub returns : goal.returns
returns c =
    let n = length c.args.graph.now.names in
    let ls = c.args.graph.now.lines in
    let made = chosen c.args.marks.now ls in
    let parents = c.join_marked.new.classes.parents.items in
    let nodes : length c.in_ok-classes.classes.parents.items ≡ n = c.in_ok-classes.ensures.parents_long ∙ c.node_count.ensures in
    let long : length parents ≡ n = c.join_marked.ensures.roots.parents_long ∙ nodes in
    let classes = subst (λ xs. AreClasses n parents (chosen c.args.marks.now xs)) c.lines.ensures (subst (λ m. AreClasses m parents (chosen c.args.marks.now c.lines.result.now)) nodes c.join_marked.ensures.classes) in
    let whole = count_by-unfit n ls c.known.ensures.makes.ends in
    let fit : count_by (unfit n) made ≡ 0 = let some = chosen-all (unfit n) c.args.marks.now ls in omega arith in
    let roots = c.in_ok-roots.roots.items in
    let found = components_of n parents made fit long classes (slice_index roots) (λ v l. c.in_ok-roots.ensures.each v (rw long l)) in
    let value : c.deref.result.now ≡ roots = c.deref.ensures.value in
    let many : length roots ≡ n = c.in_ok-roots.ensures.long ∙ long in
    IfOk-weaker c.sides_of.result (λ sides. sides ≡ classes_of (length c.deref.result.now) (slice_index c.deref.result.now)) (AreComponents n made)
    (λ sides e. subst (AreComponents n made) (sym (e ∙ (λ t. classes_of (length (value t)) (slice_index (value t))) ∙ ap (λ m. classes_of m (slice_index roots)) many)) found) c.sides_of.ensures
