use Rattle.std.proofs.Common.{◌≡◌, length}
use Rattle.solver_tests.proofs.flows.side_of.Given as goal

abbrev pub invariant-loop-v : goal.invariant-loop-v
invariant-loop-v l = length l.side ≡ l.n
