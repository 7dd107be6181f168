use Rattle.std.proofs.Common.{◌≡◌, ◌<◌, ℕ, length, slice_index}
use Rattle.nw_orientation.proofs.thin.own_labels.Given as goal

abbrev pub invariant-loop-v : goal.invariant-loop-v
invariant-loop-v l = record {
  long : length l.labels.items ≡ l.v;
  each : (v : ℕ) → v < l.v → slice_index l.labels.items v ≡ v;
}
