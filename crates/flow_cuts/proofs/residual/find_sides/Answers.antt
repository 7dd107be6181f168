use Rattle.flow_cuts.proofs.ExtremeSides.{reached_set, IsSmallestCut-reached, IsLargestCut-missed}
use Rattle.flow_cuts.proofs.residual.find_sides.Goals as goal

pub returns-clause-smallest : goal.returns-clause-smallest
returns-clause-smallest c = λ inside arcs value flow searched missed.
    IsSmallestCut-reached _ inside c.args.course.now.outside arcs c.args.links.now value c.args.tree.now.marks.items _ flow searched missed
    (reached_set _ _ (rw c.deref.ensures.value at c.write_reached.ensures.len) (rw c.deref.ensures.value at c.write_reached.ensures.at))

pub returns-clause-largest : goal.returns-clause-largest
returns-clause-largest c = λ inside arcs value len flow searched missed.
    IsLargestCut-missed _ inside c.args.course.now.outside arcs c.args.links.now c.args.course.now.steps value c.args.tree.now.marks.items c.search.new.tree.marks.items _
    len c.requires.adjacency flow searched missed (rw c.reflect.ensures at c.search.ensures.searched)
    (record { len = rw c.deref-2.ensures.value at c.write_missed.ensures.len; at = rw c.deref-2.ensures.value at c.write_missed.ensures.at })
