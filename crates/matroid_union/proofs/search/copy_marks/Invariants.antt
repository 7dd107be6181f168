use Rattle.std.proofs.Common.{◌≡◌, ℕ, ◌<◌, length}
use Rattle.graph_core.specs.Side.{has}
use Rattle.matroid_union.proofs.search.copy_marks.Given as goal

abbrev pub invariant-loop-i : goal.invariant-loop-i
invariant-loop-i l = record {
  long : length l.to ≡ length l.from;
  same : (k : ℕ) → k < l.i → has l.to k ≡ has l.from k;
}
