use Rattle.std.proofs.Common.{◌≡◌, ◌≤◌, ◌*◌, take}
use Rattle.std.specs.Prelude.{sum_by}
use Rattle.problem_defs.specs.Ways.{count_for}
use Rattle.problem_defs.proofs.augment_arcs.AugmentArcsAskProblem.bound.Given as goal

abbrev pub invariant-loop-side : goal.invariant-loop-side
invariant-loop-side l = (l.total ≡ sum_by (count_for l.dual.way l.graph.lines) (take l.side-index l.side-items)) × (l.total ≤ 65536 * l.side-index)
