use Rattle.std.proofs.Common.{◌≡◌, ◌≤◌, ◌*◌, take}
use Rattle.std.specs.Prelude.{sum_by}
use Rattle.graph_core.specs.Picked.{picked}
use Rattle.problem_defs.proofs.dijoin.DijoinAskProblem.value.Given as goal

abbrev pub invariant-loop-j : goal.invariant-loop-j
invariant-loop-j l = (l.total ≡ sum_by (λ line. line.cost) (picked l.graph.lines (take l.j-index l.j-items))) × (l.total ≤ 100 * l.j-index)
