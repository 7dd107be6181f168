use Rattle.std.proofs.Common.{◌≡◌, length}
use Rattle.std.specs.Prelude.{◌≢◌, AllPairs}
use Rattle.solver_tests.proofs.large.distinct_names.Given as goal

abbrev pub invariant-loop-v : goal.invariant-loop-v
invariant-loop-v l = record {
  count : length l.names.items ≡ l.v-counter;
  distinct : AllPairs (λ a b. a ≢ b) l.names.items;
}
