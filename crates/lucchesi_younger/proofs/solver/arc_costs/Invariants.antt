use Rattle.std.proofs.Common.{◌≡◌, map, take}
use Rattle.lucchesi_younger.proofs.solver.arc_costs.Given as goal

abbrev pub invariant-loop-line : goal.invariant-loop-line
invariant-loop-line l = l.costs ≡ map (λ x. x.cost) (take l.line-index l.line-items)
