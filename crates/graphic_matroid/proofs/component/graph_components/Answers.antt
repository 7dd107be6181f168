use Rattle.std.proofs.Common.{IfOk, true, length, replicate, ap, ◌∙◌, subst}
use Rattle.graphic_matroid.specs.Chosen.{chosen}
use Rattle.graphic_matroid.specs.ChosenLaws.{chosen-whole}
use Rattle.graphic_matroid.specs.Components.{AreComponents}
use Rattle.graphic_matroid.proofs.component.graph_components.Goals as goal

pub returns : goal.returns
returns c =
    let g = c.args.graph.now in
    let all = ap (λ A. chosen A g.lines) (c.from_vec-all.ensures ∙ c.in_ok-from_elem.ensures.items_if_clones_equal (λ y e. e) ∙ ap (λ m. replicate m true) c.line_count.ensures.count) ∙ chosen-whole g.lines in
    subst (λ ls. IfOk c.components.result (AreComponents (length g.names) ls)) all c.components.ensures
