use Rattle.std.proofs.Common.{◌≡◌, take, sum_by}
use Rattle.certificate_checker.proofs.dijoin.total_cost.Given as goal

abbrev pub invariant-loop-line : goal.invariant-loop-line
invariant-loop-line l = l.total ≡ sum_by (λ line. line.cost) (take l.line-index l.line-items)
