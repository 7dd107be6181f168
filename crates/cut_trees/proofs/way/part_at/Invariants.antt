use Rattle.std.proofs.Common.{◌≡◌, ℕ, length}
use Rattle.cut_trees.specs.Order.{IsOrdered}
use Rattle.cut_trees.specs.Way.{IsCutAt}
use Rattle.cut_trees.proofs.way.part_at.Given as goal

abbrev pub invariant-loop-k : goal.invariant-loop-k
invariant-loop-k l = record {
  long : length l.side ≡ length l.fn.side;
  cut : (u : ℕ) → IsOrdered u l.pairs (length l.pairs) → IsCutAt l.pairs l.j l.k l.side;
}
