use Rattle.std.proofs.Common.{ℕ, ◌≡◌, ◌<◌, length, false}
use Rattle.graph_core.specs.Side.{has}
use Rattle.dicut_lattice.specs.Tight.{AreSeparated}
use Rattle.solver_tests.proofs.dicuts.is_parted.Given as goal

abbrev pub invariant-loop-x : goal.invariant-loop-x
invariant-loop-x l = record {
  same : l.tight ≡ l.fn.tight;
  long : length l.found ≡ length l.fn.found;
  parted : (x : ℕ) → x < l.x → has l.level x ≡ false → AreSeparated l.fn.tight.graph l.fn.tight.join l.y x;
}
