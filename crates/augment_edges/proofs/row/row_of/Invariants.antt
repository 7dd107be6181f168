use Rattle.std.proofs.Common.{ℕ, ◌≡◌, ◌+◌, ◌<◌, true, length}
use Rattle.graph_core.specs.Side.{has}
use Rattle.cut_fn.specs.Members.{member}
use Rattle.augment_edges.specs.Row.{joined_at}
use Rattle.augment_edges.proofs.row.row_of.Given as goal

abbrev pub invariant-loop-i : goal.invariant-loop-i
invariant-loop-i l = record {
  many : length l.pairs + 1 ≡ l.i;
  first : (j : ℕ) → j < length l.pairs → has (member l.classes j) (joined_at l.pairs j).0 ≡ true;
  second : (j : ℕ) → j < length l.pairs → has (member l.classes (j + 1)) (joined_at l.pairs j).1 ≡ true;
}
