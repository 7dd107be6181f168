use Rattle.std.proofs.Common.{◌≡◌, ◌*◌, ◌≤◌, take}
use Rattle.std.specs.Prelude.{slice_index}
use Rattle.graph_core.specs.Side.{sum_over}
use Rattle.solver_tests.proofs.branchings.is_entered.Given as goal

abbrev pub invariant-loop-v : goal.invariant-loop-v
invariant-loop-v l = record {
  sum : l.sum ≡ sum_over (take l.v l.side) (slice_index l.roots);
  small : l.sum ≤ l.v * l.k;
}
