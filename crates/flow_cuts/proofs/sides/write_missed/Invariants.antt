use Rattle.std.proofs.Common.{◌≡◌, ◌<◌, ℕ, length}
use Rattle.std.specs.Prelude.{not}
use Rattle.graph_core.specs.Side.{has}
use Rattle.flow_cuts.specs.Search.{mark_at, is_seen}
use Rattle.flow_cuts.proofs.sides.write_missed.Given as goal

abbrev pub invariant-loop-v : goal.invariant-loop-v
invariant-loop-v l = record {
  len : length l.into ≡ length l.marks;
  at : (v : ℕ) → v < l.v → has l.into v ≡ not (is_seen (mark_at l.marks v));
}
