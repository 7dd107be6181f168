use Rattle.std.proofs.Common.{◌≡◌, ◌<◌, ◌≤◌, ℕ, length, slice_index}
use Rattle.graph_core.specs.Labels.{joined}
use Rattle.nw_orientation.proofs.thin.relabel.Given as goal

abbrev pub invariant-loop-v : goal.invariant-loop-v
invariant-loop-v l = record {
  long : length l.labels ≡ length l.fn.labels;
  done : (u : ℕ) → u < l.v → slice_index l.labels u ≡ joined (slice_index l.fn.labels) l.old l.new u;
  rest : (u : ℕ) → l.v ≤ u → slice_index l.labels u ≡ slice_index l.fn.labels u;
}
