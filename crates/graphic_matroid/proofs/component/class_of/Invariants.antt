use Rattle.std.proofs.Common.{ℕ, ◌≡◌, ◌<◌, ◌==◌, length}
use Rattle.std.specs.Prelude.{slice_index}
use Rattle.graph_core.specs.Side.{has}
use Rattle.graphic_matroid.proofs.component.class_of.Given as goal

abbrev pub invariant-loop-v : goal.invariant-loop-v
invariant-loop-v l = record {
  long : length l.side ≡ length l.roots;
  done : (u : ℕ) → u < l.v → has l.side u ≡ (slice_index l.roots u == l.root);
}
