use Rattle.std.proofs.Common.{false, replicate, ap, ◌∙◌}
use Rattle.graphic_matroid.proofs.GrowingLaws.{forest_started}
use Rattle.graphic_matroid.proofs.graphic.GraphicMatroid.no_elements.Goals as goal

pub returns-clause-kept : goal.returns-clause-kept
returns-clause-kept c =
    let g = c.args.self.now in
    let classes = c.in_ok-classes.ensures in
    forest_started g.nodes g.lines.items c.in_ok-marks.marks.items c.in_ok-classes.classes.parents.items c.in_ok-classes.classes.ranks.items
    (c.in_ok-marks.ensures.items_if_clones_equal (λ y e. e) ∙ ap (λ m. replicate m false) c.size.ensures)
    classes.parents_long classes.ranks_long classes.parents classes.ranks
