use Rattle.cut_trees.proofs.WayLaws.{IsFollowed}
use Rattle.cut_trees.proofs.way.least_on_way.Given as goal

abbrev pub invariant-loop-i : goal.invariant-loop-i
invariant-loop-i l = IsFollowed l.pairs l.v l.i l.at l.least

abbrev pub decreases-loop-i : goal.decreases-loop-i
decreases-loop-i l = l.i
