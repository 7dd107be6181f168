use Rattle.std.proofs.Common.{◌≡◌, ◌<◌, ◌≤◌, ℕ}
use Rattle.graph_core.specs.Side.{has}
use Rattle.graph_core.specs.Pairs.{pair_at}
use Rattle.cut_trees.proofs.order.next_across.Given as goal

abbrev pub invariant-loop-k : goal.invariant-loop-k
invariant-loop-k l = (k : ℕ) → l.i ≤ k → k < l.k → has l.side (pair_at l.pairs k).0 ≡ has l.side (pair_at l.pairs k).1
