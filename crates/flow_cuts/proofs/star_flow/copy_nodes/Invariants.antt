use Rattle.std.proofs.Common.{ℕ, ◌≡◌, ◌<◌, length}
use Rattle.graph_core.specs.Side.{has}
use Rattle.flow_cuts.proofs.star_flow.copy_nodes.Given as goal

abbrev pub invariant-loop-v : goal.invariant-loop-v
invariant-loop-v l = record {
  long : length l.into ≡ length l.initial.into;
  first : (u : ℕ) → u < l.v → has l.into u ≡ has l.from u;
}
