use Rattle.std.proofs.Common.{◌≡◌, ◌-◌, ◌<◌}
use Rattle.std.specs.Prelude.{slice_index}
use Rattle.star_net.specs.Lowered.{capacity_over, IsLowered}
use Rattle.star_net.proofs.counts.least_counts.Given as goal

abbrev pub invariant-loop-v : goal.invariant-loop-v
invariant-loop-v l = record {
  last : l.v < l.n → slice_index l.least.counts.items (l.n - 1) ≡ l.k;
  lowered : IsLowered l.n l.k (capacity_over l.arcs) l.v l.least.counts.items l.least.family;
}
