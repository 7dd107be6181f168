use Rattle.std.proofs.Common.{◌≡◌, length, vec_len, false, replicate, ap, ◌∙◌, arith}
use Rattle.graphic_matroid.proofs.GrowingLaws.{forest_started}
use Rattle.graphic_matroid.proofs.graphic.GraphicMatroid.clear.Goals as goal

pub returns-clause-kept : goal.returns-clause-kept
returns-clause-kept c =
    let g = c.args.self.now in
    let made = c.reset.new.self in
    let many : vec_len c.args.set.now.marks ≡ length g.lines.items = omega (arith, c.requires.long) in
    let nodes = c.requires.roots.parents_long in
    forest_started g.nodes g.lines.items c.fill.new.self.items made.parents.items made.ranks.items
    (c.fill.ensures.items (λ y e. e) ∙ ap (λ m. replicate m false) many)
    (c.reset.ensures.parents_long ∙ nodes) (c.reset.ensures.ranks_long ∙ nodes)
    (λ v l. c.reset.ensures.parents v (rw nodes l)) (λ v l. c.reset.ensures.ranks v (rw nodes l))
