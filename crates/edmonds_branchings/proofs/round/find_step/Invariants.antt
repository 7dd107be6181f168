use Rattle.std.proofs.Common.{ℕ, ◌≡◌, ◌<◌, true, length}
use Rattle.graph_core.specs.Side.{has}
use Rattle.edmonds_branchings.specs.Round.{IsEligible, AreRefused}
use Rattle.edmonds_branchings.proofs.round.find_step.Given as goal

abbrev pub invariant-loop-j : goal.invariant-loop-j
invariant-loop-j l = record {
  long : length l.refused ≡ length l.arcs;
  refused : AreRefused l.n l.k l.arcs l.refused;
  tried : (i : ℕ) → i < l.j → IsEligible l.arcs l.covered i → has l.refused i ≡ true;
}
