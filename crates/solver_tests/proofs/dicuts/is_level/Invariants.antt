use Rattle.std.proofs.Common.{ℕ, ◌≡◌, ◌<◌, length, true, false}
use Rattle.graph_core.specs.Side.{has}
use Rattle.dicut_lattice.specs.Tight.{AreSeparated}
use Rattle.solver_tests.proofs.dicuts.is_level.Given as goal

abbrev pub invariant-loop-y : goal.invariant-loop-y
invariant-loop-y l = record {
  same : l.tight ≡ l.fn.tight;
  long : length l.found ≡ length l.fn.found;
  kept : (y : ℕ) → y < l.y → (x : ℕ) → has l.level y ≡ true → x < length l.fn.tight.graph.names → has l.level x ≡ false → AreSeparated l.fn.tight.graph l.fn.tight.join y x;
}
